-- Noble figures: docs/SPECIFICATION.md, chapter 17. What a package says, which hyperplane orbits it keeps, and the
-- closed choices with no closed choice inside. In the Rust it is the path of `faceting_subdim` with a
-- `noble_package`. Leans on Orbits, Job and Demands.
use Rattle.std.specs.Prelude.{◌≡◌, ◌↔◌, Bool, true, cond, not, ◌&&◌, ℕ, ◌+◌, ◌*◌, ◌/◌, T, leb, ltb, eqb, length, get_or}
use Rattle.std.specs.Prelude.{take, drop}
use mathlib.Core.List.{List, [], ◌∷◌, ◌++◌, map, Memᴰ, Nodup}
use Rattle.std.specs.Prelude.{Option, Some, None}
use Rattle.definitions.specs.Lists.{member_nat, all_of, keep, map_at, count_from, fresh, compare_nats}
use Rattle.definitions.specs.Orbits.{Row, Orbit, set_image}
use Rattle.definitions.specs.Search.{Facet, Table}
use Rattle.definitions.specs.Job.{Bytes, number_at, between, same_nats, is_permutation}
use Rattle.definitions.specs.Demands.{is_closed_choice}

-- ---- the package

-- [17.1] The full set's points are numbered below `size`. `globals` says of each vertex of this call which of them it
-- is, `rows` are permutations of them, and `count` is what each set of an orbit counts for.
pub record Package : Type 0 where
  pub size : ℕ
  pub count : ℕ
  pub globals : List ℕ
  pub rows : List Row

-- [17.2] where the package of a call with n vertices ends, by what its own first bytes say
unfoldable pub package_end : ℕ → Bytes → ℕ
package_end n bytes = 5 + n + get_or bytes 2 0 * number_at bytes 0 2

-- [17.2] each field behind the one before, read where it would stand whether or not the package is long enough
unfoldable pub read_package : ℕ → Bytes → Package
read_package n bytes =
    let size = get_or bytes 2 0 in
    record {
      size = size;
      count = number_at bytes 3 2;
      globals = take n (drop 5 bytes);
      rows = map (λ (i : ℕ). take size (drop (5 + n + size * i) bytes)) (count_from 0 (number_at bytes 0 2));
    }

-- [17.3] no number stands twice
unfoldable pub distinct : List ℕ → Bool
distinct [] = true
distinct (v ∷ vs) = let rest = distinct vs in not (member_nat v vs) && rest

-- [17.3] numbers in their ranges, in a package of the length that they state
unfoldable pub package_counts : ℕ → Bytes → Bool
package_counts n bytes =
    let p = read_package n bytes in
    between 1 120 (number_at bytes 0 2) && between 2 20 p.size && between 1 65535 p.count
    && eqb (length bytes) (package_end n bytes)

-- [17.3] global numbers of the full set's points, none twice
unfoldable pub globals_good : Package → Bool
globals_good p = all_of (λ (v : ℕ). ltb v p.size) p.globals && distinct p.globals

-- [17.3] the first full row is the identity, and each is a permutation
unfoldable pub full_rows_good : Package → Bool
full_rows_good p = same_nats (get_or p.rows 0 []) (count_from 0 p.size) && all_of (is_permutation p.size) p.rows

-- [17.3] what a package must pass, or 18
unfoldable pub package_good : ℕ → Bytes → Bool
package_good n bytes =
    package_counts n bytes && globals_good (read_package n bytes) && full_rows_good (read_package n bytes)

-- ---- keys

-- [17.4] an orbit's key: the global numbers of its first set, ascending
unfoldable pub key_of : Package → Orbit → List ℕ
key_of p orbit = set_image orbit.vertices p.globals

-- [17.4] a key's different images under the full rows
unfoldable pub key_images : Package → List ℕ → List (List ℕ)
key_images p key = fresh compare_nats [] (map (set_image key) p.rows)

-- ---- tallies

-- [17.5] a key, and the number of the tally that it is marked with
pub record Mark : Type 0 where
  pub key : List ℕ
  pub tally : ℕ

-- [17.5] how many different images the key had that opened it, and what was added up
pub record Tally : Type 0 where
  pub images : ℕ
  pub sum : ℕ

-- [17.5] the marks, the latest first, and the tallies by their numbers
pub record Tallies : Type 0 where
  pub marks : List Mark
  pub tallies : List Tally

-- [17.5] the tally of a key's latest mark, or none where it was never marked
unfoldable pub mark_of : List ℕ → List Mark → Option ℕ
mark_of key [] = None
mark_of key (m ∷ ms) = let earlier = mark_of key ms in cond (same_nats key m.key) (Some m.tally) earlier

-- [17.5] what an orbit adds to a tally of a key with so many images
unfoldable pub portion : Package → Orbit → ℕ → ℕ
portion p orbit images = p.count * orbit.count / images

-- [17.5] an unmarked key opens a tally, and all its images are marked with it
unfoldable pub open_tally : Package → Orbit → Tallies → Tallies
open_tally p orbit t =
    let images = key_images p (key_of p orbit) in
    record {
      marks = map (λ (k : List ℕ). record { key = k; tally = length t.tallies }) images ++ t.marks;
      tallies = t.tallies ++ (record { images = length images; sum = portion p orbit (length images) } ∷ []);
    }

-- [17.5] a tally with an orbit more, by the number of images that it was opened with
unfoldable pub add_portion : Package → Orbit → Tally → Tally
add_portion p orbit x = record { images = x.images; sum = x.sum + portion p orbit x.images }

-- [17.5] a marked one adds to its tally
unfoldable pub add_to_tally : Package → Orbit → ℕ → Tallies → Tallies
add_to_tally p orbit number t = record {
  marks = t.marks;
  tallies = map_at (λ i (x : Tally). cond (eqb i number) (add_portion p orbit x) x) 0 t.tallies;
}

-- [17.5] by whether and with which tally the key is marked
unfoldable pub tally_by : Option ℕ → Package → Orbit → Tallies → Tallies
tally_by None p orbit t = open_tally p orbit t
tally_by (Some number) p orbit t = add_to_tally p orbit number t

-- [17.5] the tallies with an orbit more
unfoldable pub tally_orbit : Package → Tallies → Orbit → Tallies
tally_orbit p t orbit = tally_by (mark_of (key_of p orbit) t.marks) p orbit t

-- [17.5] orbit by orbit, in order
unfoldable pub tally_orbits : Package → Tallies → List Orbit → Tallies
tally_orbits p t [] = t
tally_orbits p t (orbit ∷ orbits) = tally_orbits p (tally_orbit p t orbit) orbits

-- ---- kept orbits

-- [17.6] what the tally adds up to that a key is marked with
unfoldable pub sum_at : Option ℕ → List Tally → ℕ
sum_at None tallies = 0
sum_at (Some number) tallies = (get_or tallies number (record { images = 0; sum = 0 })).sum

-- [17.6] an orbit whose key's tally, at the end, is 2 or more
unfoldable pub keeps_orbit : Package → Tallies → Orbit → Bool
keeps_orbit p t orbit = leb 2 (sum_at (mark_of (key_of p orbit) t.marks) t.tallies)

-- [17.6] those of all orbits that are kept, in order
unfoldable pub kept_by : Package → List Orbit → List Orbit
kept_by p orbits = keep (keeps_orbit p (tally_orbits p (record { marks = []; tallies = [] }) orbits)) orbits

-- ---- choices with none inside

-- [17.7] a closed choice all of whose facets are this choice's is this choice
unfoldable pub NoneInside : Table → List Facet → Type 0
NoneInside table c = (d : List Facet) → T (is_closed_choice table d) → ((f : Facet) → Memᴰ f d → Memᴰ f c) → d ≡ c

-- [17.7] the list has every closed choice with no closed choice properly inside it just once, and nothing else
pub record AllMinimalChoices (table : Table) (choices : List (List Facet)) : Type 0 where
  pub once : Nodup choices
  pub these : (c : List Facet) → (T (is_closed_choice table c) × NoneInside table c) ↔ Memᴰ c choices
