-- Whether some row sends 0 to 1, read row by row. Leans on the rows in bytes.
use Rattle.std.specs.Prelude.{◌≡◌, refl, Bool, ◌||◌, List, ℕ, zero, suc, ◌+◌, ◌*◌, ◌<◌, eqb, get_or, take, drop}
use Rattle.std.specs.List.{list_any, range_with_len}
use Rattle.std.proofs.Common.{sym, ap, ◌∙◌, arith, drop-drop, add-one}
use Rattle.definitions.specs.Lists.{any_of}
use Rattle.definitions.specs.Orbits.{Row, image}
use Rattle.laws.specs.Parts.{rows}
use Rattle.rows.specs.Rows.{rows_in, image_at_holds}

-- a row that sends 0 to 1
abbrev pub swaps : Row → Bool
swaps row = eqb 1 (image row 0)

-- whether the row at a place does
abbrev pub swaps_at : List ℕ → ℕ → Bool
swaps_at s i = eqb 1 (get_or s (32 * i + 0) 0)

-- Some row of m that lie 32 apart does, if one does at some place below m.
pub some_swaps : (s : List ℕ) (m n : ℕ) → 0 < n
    → list_any (swaps_at s) (range_with_len 0 m) ≡ any_of swaps (rows_in n m s)
unfolding rows_in rows any_of
some_swaps s m n some = from 0 m
  where
    from : (i many : ℕ)
        → list_any (swaps_at s) (range_with_len i many) ≡ any_of swaps (rows 32 n many (drop (32 * i) s))
    from i zero = refl
    from i (suc many) =
        let here : swaps_at s i ≡ swaps (take n (drop (32 * i) s)) = ap (eqb 1) (sym (image_at_holds n i s 0 some)) in
        let next : 32 * i + 32 ≡ 32 * suc i = omega arith in
        let behind : drop (32 * suc i) s ≡ drop 32 (drop (32 * i) s) = ap (λ (k : ℕ). drop k s) (sym next)
        ∙ sym (drop-drop 32 (32 * i) s) in
        rw (here, add-one i, ← behind) (ap (λ (b : Bool). swaps (take n (drop (32 * i) s)) || b) (from (suc i) many))
