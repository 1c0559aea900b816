-- Theorems on the definitions of specs/Numbers.
use Rattle.std.specs.Prelude.{◌≡◌, length, Option, Some, None}
use Rattle.std.proofs.Math.Path.{sym, ap}
use Rattle.std.proofs.Common.{◌∙◌}
use mathlib.Core.List.{List}
use Prim.Native.Nat.{ℕ, ◌<◌}
use native.Mathlib.Omega.{arith}
use Rattle.std.proofs.Math.ListN.{get_or, replicate}
use Rattle.std.proofs.lemmas.List.{length-map}
use Rattle.definitions.specs.Lists.{count_from}
use Rattle.definitions.specs.Search.{Table, Facet, all_facets, ones_at}
use Rattle.laws.specs.Lists.{Mem, map_at_holds, member_at, of_count, of_flat_map, in_replicate}
use Rattle.facets.specs.Frames.{candidates}
use Rattle.facets.specs.Layout.{numbers, facet_of, ones_of}
use Rattle.facets.specs.Numbers.{numbers_are}

-- ---- the candidates and their numbers

pub numbers_length : (t : Table) (kind : Option ℕ) → length (candidates t kind) ≡ length (numbers t kind)
numbers_length t kind = ap length (sym (numbers_are t kind)) ∙ length-map (numbers t kind) (facet_of t)

pub candidate_at : (t : Table) (kind : Option ℕ) (i : ℕ) → i < length (numbers t kind)
    → get_or (candidates t kind) i (0, 0) ≡ facet_of t (get_or (numbers t kind) i 0)
candidate_at t kind i h =
    ap (λ (l : List Facet). get_or l i (0, 0)) (sym (numbers_are t kind))
    ∙ map_at_holds (facet_of t) (numbers t kind) i (0, 0) 0 h

in_numbers : (t : Table) (kind : Option ℕ) (x : ℕ) → Mem x (numbers t kind) → x < length (all_facets t)
unfolding numbers ones_of
in_numbers t None x m = let r = (of_count 0 (length (all_facets t)) x m).1 in omega arith
in_numbers t (Some ridge) x m =
    let r = of_flat_map (λ (y : ℕ). replicate (ones_at t ridge (facet_of t y)) y) x
    (count_from 0 (length (all_facets t))) m in
    let e = in_replicate (ones_at t ridge (facet_of t r.0)) x r.0 r.2 in
    let k = (of_count 0 (length (all_facets t)) r.0 r.1).1 in
    omega arith

pub numbers_small : (t : Table) (kind : Option ℕ) (i : ℕ) → i < length (numbers t kind)
    → get_or (numbers t kind) i 0 < length (all_facets t)
numbers_small t kind i h = in_numbers t kind (get_or (numbers t kind) i 0) (member_at (numbers t kind) i 0 h)
