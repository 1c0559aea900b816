-- What the code is given: a package, with its global numbers and full rows in bytes, rows at a stride of 32.
-- What they mean is a package [17.1]. Leans on the rows in bytes and on Counts.
use Rattle.std.specs.Prelude.{◌≡◌, List, ◌++◌, map, ℕ, ◌+◌, ◌-◌, ◌*◌, ◌^◌, ◌≤◌, ◌<◌, length, get_or, take, drop}
use Rattle.std.specs.Prelude.{replicate}
use Rattle.std.proofs.Common.{sym, ap, subst, ◌∙◌, arith}
use Rattle.std.proofs.Math.Nat.{pow-le-pow_right}
use Rattle.definitions.specs.Orbits.{image, set_image}
use Rattle.definitions.specs.Job.{number_at}
use Rattle.definitions.specs.Noble as def
use Rattle.laws.specs.Lists.{of_map}
use Rattle.laws.specs.Pairs.{pairs_map}
use Rattle.laws.specs.Sets.{set_number, number_small, vertices_of, SetFrom, vertices_set, set_range, set_rises}
use Rattle.laws.specs.Sets.{sorted_set}
use Rattle.words.specs.Words.{words}
use Rattle.rows.specs.Rows.{rows_in, row_at, image_at_holds}
use Rattle.tallies.specs.Counts.{Counted, most_weight, Ready}
use Rattle.tallies.specs.declared.Package.{Package}
use Rattle.tallies.specs.declared.Tally.{Tally}

-- the global numbers of n vertices in a full set of g points, none twice
pub record GlobalsFit (n g : ℕ) (globals : List ℕ) : Type 0 where
  pub n_fits : n ≤ 20
  pub g_fits : g ≤ 20
  pub long : 32 ≤ length globals
  pub below : (v : ℕ) → v < n → get_or globals v 0 < g
  pub one : (u w : ℕ) → u < n → w < n → get_or globals u 0 ≡ get_or globals w 0 → u ≡ w

-- a package that can be counted by
pub record PackageFits (n : ℕ) (whole : Package) : Type 0 where
  pub numbered : GlobalsFit n whole.full.n whole.globals.now
  pub some_row : 0 < whole.full.rows.count
  pub few_rows : whole.full.rows.count ≤ 120
  pub small_count : whole.count ≤ 65535

-- the package
unfoldable pub package_in : ℕ → Package → def.Package
package_in n whole = record {
  size = whole.full.n;
  count = whole.count;
  globals = row_at n 0 whole.globals.now;
  rows = rows_in whole.full.n whole.full.rows.count whole.full.rows.bytes.now;
}

-- what marks in bytes and two rows of numbers count
unfoldable pub counted_in : ℕ → ℕ → List ℕ → List ℕ → List ℕ → Counted
counted_in known tallies marks images sums = record {
  marks = words 4 marks known;
  tallies = tallies;
  images = images;
  sums = sums;
}

-- an orbit more may be counted, and there is room for its marks
pub record TallyFits (known tallies : ℕ) (marks images sums : List ℕ) : Type 0 where
  pub long : 122880 ≤ length marks
  pub ready : Ready (counted_in known tallies marks images sums)

-- a number of each tally; the places that are not used yet count as 0
abbrev pub column_in : (Tally → ℕ) → List Tally → List ℕ
column_in f tallies = map f tallies ++ replicate (256 - length tallies) 0

abbrev pub images_in : List Tally → List ℕ
images_in tallies = column_in (λ t. t.images) tallies

abbrev pub sums_in : List Tally → List ℕ
sums_in tallies = column_in (λ t. t.sum) tallies

-- the tallies that the code holds
abbrev pub listed_in : ℕ → List ℕ → List Tally → Counted
listed_in known marks tallies = counted_in known (length tallies) marks (images_in tallies) (sums_in tallies)

-- an orbit more may be counted with them
abbrev pub ListFits : ℕ → List ℕ → List Tally → Type 0
ListFits known marks tallies = TallyFits known (length tallies) marks (images_in tallies) (sums_in tallies)

-- what the first orbits of a workspace count for does not run over
pub record WeightsFit (count orbits : ℕ) (ws : List ℕ) : Type 0 where
  pub light : (j : ℕ) → j < orbits → count * number_at ws (8 * j + 4) 4 ≤ most_weight

-- a key's global numbers are a set
pub key_set : (n g : ℕ) (globals : List ℕ) → GlobalsFit n g globals → (x : ℕ)
    → SetFrom 0 g (set_image (vertices_of n x) (row_at n 0 globals))
unfolding set_image vertices_of row_at
key_set n g globals f x =
    let s = vertices_set 0 n x in
    sorted_set g (map (image (take n (drop (32 * 0) globals))) (vertices_of n x))
    (pairs_map ◌<◌ (λ (a b : ℕ). a ≡ b → ⊥) (image (take n (drop (32 * 0) globals))) (vertices_of n x)
    (λ u i w j h e. let p = one u w (set_range s u i).1 (set_range s w j).1 e in omega arith) (set_rises s))
    (λ u h. let r = of_map (image (take n (drop (32 * 0) globals))) u (vertices_of n x) h in
    let b = (set_range s r.0 r.1).1 in
    subst (λ (k : ℕ). k < g) (sym r.2) (below r.0 (omega arith)))
  where
    at : (v : ℕ) → v < n → image (take n (drop (32 * 0) globals)) v ≡ get_or globals v 0
    at v h =
        let z : 32 * 0 + v ≡ v = omega arith in
        image_at_holds n 0 globals v h ∙ ap (λ (k : ℕ). get_or globals k 0) z

    below : (v : ℕ) → v < n → image (take n (drop (32 * 0) globals)) v < g
    below v h = subst (λ (k : ℕ). k < g) (sym (at v h)) (f.below v h)

    one : (u w : ℕ) → u < 0 + n → w < 0 + n
        → image (take n (drop (32 * 0) globals)) u ≡ image (take n (drop (32 * 0) globals)) w → u ≡ w
    one u w h k e =
        let p : u < n = omega arith in
        let q : w < n = omega arith in
        f.one u w p q (sym (at u p) ∙ e ∙ at w q)

pub key_small : (n g : ℕ) (globals : List ℕ) → GlobalsFit n g globals → (x : ℕ)
    → set_number (set_image (vertices_of n x) (row_at n 0 globals)) < 1048576
key_small n g globals f x =
    let small : 2 ^ g ≤ 1048576 = pow-le-pow_right {n = 2} (omega arith) {i = g} {j = 20} f.g_fits in
    omega (arith, number_small (key_set n g globals f x))
