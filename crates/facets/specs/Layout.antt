-- The workspace of a search: what its areas hold. The tables come first (each facet's orbit; what it adds, as one
-- list for each facet; the facets with shares of 1, as one list for each ridge orbit), then the frames, the totals,
-- the orbits in use, and the emitted lists. Facets are counted from 0 in the order of `all_facets`. Leans on Sums,
-- Words and Pool.
use Rattle.std.specs.Prelude.{◌≡◌, Bool, true, false, cond, ◌||◌, ℕ, zero, suc, ◌+◌, ◌-◌, ◌*◌, ◌/◌, ◌%◌, ◌≤◌, ◌<◌, ltb}
use Rattle.std.specs.Prelude.{eqb, length, get_or, set, take, replicate}
use Rattle.std.proofs.Common.{refl, sym, ap, ◌∙◌, arith}
use mathlib.Core.List.{List, [], ◌∷◌, map, flat_map}
use Rattle.std.specs.Prelude.{Option, Some, None, SomeIff}
use Rattle.definitions.specs.Lists.{count_from}
use Rattle.definitions.specs.Job.{number_at}
use Rattle.definitions.specs.Search as def
use Rattle.definitions.specs.Search.{Table, Facet, all_facets, ones_at, uses_orbit}
use Rattle.laws.specs.Segments.{part, placed, part_take}
use Rattle.words.specs.Words.{words, words_take}
use Rattle.pool.specs.Pool.{Sound, count, closed_lists}
use Rattle.facets.specs.Sums.{amount, sum_at}
use Rattle.facets.specs.declared.Areas.{Areas}
use Rattle.facets.specs.declared.Verdict.{Verdict}
use Rattle.facets.specs.declared.Verdict.TheVariants.{Over, Open, Closed}

-- what a verdict says
unfoldable pub verdict : Verdict → def.Verdict
verdict Over = def.over
verdict (Open ridge) = def.open_at ridge
verdict Closed = def.closed

-- ---- facets by their numbers

unfoldable pub facet_of : Table → ℕ → Facet
facet_of t x = get_or (all_facets t) x (0, 0)

-- the facets with a share 1 in a ridge orbit, ascending, once per such share
unfoldable pub ones_of : Table → ℕ → List ℕ
ones_of t ridge =
    flat_map (λ (x : ℕ). replicate (ones_at t ridge (facet_of t x)) x) (count_from 0 (length (all_facets t)))

-- the candidates of a list: of a closed one all facets, of one that is open those with shares of 1. The kind is the
-- ridge orbit at which it is open, if any
unfoldable pub numbers : Table → Option ℕ → List ℕ
numbers t None = count_from 0 (length (all_facets t))
numbers t (Some ridge) = ones_of t ridge

-- that ridge orbit, if there is one, is one of the table
abbrev pub KindIn : Areas → Option ℕ → Type 0
KindIn a kind = (ridge : ℕ) → kind ≡ Some ridge → ridge < a.ridges

-- a kind in bytes: 0, or one more than the ridge orbit
unfoldable pub ridge_of : ℕ → Option ℕ
ridge_of zero = None
ridge_of (suc ridge) = Some ridge

unfoldable pub code_of : Option ℕ → ℕ
code_of None = 0
code_of (Some ridge) = suc ridge

-- one is taken from the number, where it is not 0
pub ridge_below : (r : Option ℕ) (code : ℕ) → SomeIff r (1 ≤ code) (code - 1) → r ≡ ridge_of code
unfolding ridge_of
ridge_below None zero h = refl
ridge_below None (suc ridge) h = absurd (h (omega arith))
ridge_below (Some x) zero h = absurd (let k = h.0 in omega arith)
ridge_below (Some x) (suc ridge) h = ap Some (let e = h.1 in omega arith)

pub ridge_of_code : (kind : Option ℕ) → ridge_of (code_of kind) ≡ kind
unfolding ridge_of code_of
ridge_of_code None = refl
ridge_of_code (Some ridge) = refl

pub code_small : (a : Areas) (kind : Option ℕ) → KindIn a kind → code_of kind ≤ a.ridges
unfolding code_of
code_small a None h = omega arith
code_small a (Some ridge) h = let k = h ridge refl in omega arith

-- ---- the tables

abbrev pub touched_part : Areas → List ℕ → List ℕ
touched_part a s = part a.touched (a.ones - a.touched) s

abbrev pub ones_part : Areas → List ℕ → List ℕ
ones_part a s = part a.ones (a.frames - a.ones) s

-- what a facet adds to a ridge orbit, from codes of 4 × ridge orbit + amount
unfoldable pub amount_in : ℕ → List ℕ → ℕ
amount_in ridge [] = 0
amount_in ridge (c ∷ cs) = cond (eqb ridge (c / 4)) (c % 4) 0 + amount_in ridge cs

-- the codes of a facet
unfoldable pub codes : Areas → List ℕ → ℕ → List ℕ
codes a touched x = get_or (closed_lists 2 a.facets touched) x []

-- the areas hold a table
pub record Tables (t : Table) (a : Areas) (os touched ones : List ℕ) : Type 0 where
  pub facets : a.facets ≡ length (all_facets t)
  pub ridges : a.ridges ≡ t.ridges
  pub orbits : a.orbits ≡ length t.shares
  pub orbit_of : os ≡ map (λ (f : Facet). f.0) (all_facets t)
  pub touched_sound : Sound 2 a.facets touched
  pub touched_count : count touched ≡ a.facets
  pub amounts : (x : ℕ) → x < a.facets → (ridge : ℕ) → ridge < a.ridges
      → amount_in ridge (codes a touched x) ≡ amount t ridge (facet_of t x)
  pub within : (x : ℕ) → x < a.facets → (i : ℕ) → i < length (codes a touched x)
      → get_or (codes a touched x) i 0 / 4 < a.ridges
  pub ones_sound : Sound 2 a.ridges ones
  pub ones_are : closed_lists 2 a.ridges ones ≡ map (ones_of t) (count_from 0 a.ridges)

abbrev pub HoldsTables : Table → Areas → List ℕ → Type 0
HoldsTables t a s = Tables t a (words 2 s a.facets) (touched_part a s) (ones_part a s)

-- ---- sizes

pub record AreasFit (a : Areas) (size : ℕ) : Type 0 where
  pub few_facets : a.facets ≤ 65536
  pub few_ridges : a.ridges < 16384
  pub few_orbits : a.orbits ≤ 65536
  pub few_items : a.bound * a.orbits < 4294967295
  pub few_lists : a.bound < 4294967295
  pub orbit_room : 2 * a.facets ≤ a.touched
  pub touched_room : a.touched ≤ a.ones
  pub ones_room : a.ones ≤ a.frames
  pub frame_room : a.frames + 16 * (a.orbits + 1) ≤ a.totals
  pub total_room : a.totals + a.ridges ≡ a.used
  pub used_room : a.used + a.orbits ≤ a.lists
  pub list_room : a.lists + (12 + 4 * a.bound + 2 * (a.bound * a.orbits)) ≤ a.end
  pub ends : a.end ≤ size

pub record Inputs (t : Table) (a : Areas) (s : List ℕ) : Type 0 where
  pub fits : AreasFit a (length s)
  pub holds : HoldsTables t a s

-- the tables lie before the frames
pub holds_kept : (t : Table) (a : Areas) (s s' : List ℕ) → AreasFit a (length s) → take a.frames s' ≡ take a.frames s
    → HoldsTables t a s → HoldsTables t a s'
holds_kept t a s s' f e h =
    let o : words 2 s' a.facets ≡ words 2 s a.facets =
    sym (words_take 2 s' a.frames a.facets (omega arith))
    ∙ (ap (λ (r : List ℕ). words 2 r a.facets) e ∙ words_take 2 s a.frames a.facets (omega arith)) in
    let p : touched_part a s' ≡ touched_part a s =
    sym (part_take a.frames s' a.touched (a.ones - a.touched) (omega arith))
    ∙ (ap (touched_part a) e ∙ part_take a.frames s a.touched (a.ones - a.touched) (omega arith)) in
    let q : ones_part a s' ≡ ones_part a s =
    sym (part_take a.frames s' a.ones (a.frames - a.ones) (omega arith))
    ∙ (ap (ones_part a) e ∙ part_take a.frames s a.ones (a.frames - a.ones) (omega arith)) in
    rw (o, p, q) h

-- ---- the other areas

abbrev pub frames_part : Areas → List ℕ → List ℕ
frames_part a s = part a.frames (a.totals - a.frames) s

abbrev pub totals_part : Areas → List ℕ → List ℕ
totals_part a s = part a.totals (a.used - a.totals) s

abbrev pub used_part : Areas → List ℕ → List ℕ
used_part a s = part a.used (a.lists - a.used) s

abbrev pub lists_part : Areas → List ℕ → List ℕ
lists_part a s = part a.lists (a.end - a.lists) s

-- the totals of a list
abbrev pub Totals : Table → Areas → List Facet → List ℕ → Type 0
Totals t a list ts = (ridge : ℕ) → ridge < a.ridges → get_or ts ridge 0 ≡ sum_at t list ridge

unfoldable pub flag : Bool → ℕ
flag true = 1
flag false = 0

-- the orbits that a list uses
abbrev pub Uses : Areas → List Facet → List ℕ → Type 0
Uses a list us = (orbit : ℕ) → orbit < a.orbits → get_or us orbit 0 ≡ flag (uses_orbit orbit list)

-- ---- a facet joins the list or leaves it

-- the totals with each code's amount added or taken off
unfoldable pub changed : (ℕ → ℕ → ℕ) → List ℕ → List ℕ → List ℕ
changed by ts [] = ts
changed by ts (c ∷ cs) = changed by (set ts (c / 4) (by (get_or ts (c / 4) 0) (c % 4))) cs

-- whether a total is above 2 when a code's amount was added to it
unfoldable pub lifted : List ℕ → List ℕ → Bool
lifted ts [] = false
lifted ts (c ∷ cs) = ltb 2 (get_or ts (c / 4) 0 + c % 4) || lifted (set ts (c / 4) (get_or ts (c / 4) 0 + c % 4)) cs

unfoldable pub with_totals : (ℕ → ℕ → ℕ) → Areas → List ℕ → ℕ → List ℕ
with_totals by a s x =
    placed a.totals (a.used - a.totals) s (changed by (totals_part a s) (codes a (touched_part a s) x))

unfoldable pub with_use : Areas → List ℕ → ℕ → ℕ → List ℕ
with_use a s x v = placed a.used (a.lists - a.used) s (set (used_part a s) (number_at s (2 * x) 2) v)

-- [7.5] a facet joins a list: what it adds and its orbit are counted, or no longer counted
unfoldable pub with_facet : Areas → List ℕ → ℕ → List ℕ
with_facet a s x = with_use a (with_totals ◌+◌ a s x) x 1

unfoldable pub without_facet : Areas → List ℕ → ℕ → List ℕ
without_facet a s x = with_use a (with_totals ◌-◌ a s x) x 0
