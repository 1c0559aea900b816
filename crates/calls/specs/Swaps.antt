-- Whether some row sends 0 to 1, row by row: one row that does, and none so far. Leans on the rows in bytes.
use Rattle.std.specs.Prelude.{◌≡◌, refl, Bool, true, false, List, [], ℕ, ◌+◌, ◌*◌, ◌≤◌, ◌<◌, T, eqb, length, get_or}
use Rattle.std.specs.Prelude.{take, drop}
use Rattle.std.proofs.Common.{sym, ap, ◌∙◌, subst, ⊎_elim, arith, eqb→eq}
use Rattle.std.proofs.Math.Dec.{eqb_refl}
use Rattle.definitions.specs.Lists.{any_of}
use Rattle.definitions.specs.Orbits.{Row, image}
use Rattle.laws.specs.Bools.{holds→true, true→holds}
use Rattle.laws.specs.Lists.{any_of_holds, any_witness, member_at, at_member}
use Rattle.laws.specs.Parts.{get_d_rows, length_rows}
use Rattle.laws.specs.Segments.{le_or_lt}
use Rattle.rows.specs.Rows.{rows_in, image_at_holds}
use Rattle.calls.specs.Ends.{swaps}

-- none of the first i rows does
pub record NoneSwaps (s : List ℕ) (m i : ℕ) : Type 0 where
  pub turns : i ≤ m
  pub none : (j : ℕ) → j < i → (get_or s (32 * j + 0) 0 ≡ 1) → ⊥

module _ (s : List ℕ) (m n : ℕ) (some : 0 < n) where
  row_is : (j : ℕ) → j < m → get_or (rows_in n m s) j [] ≡ take n (drop (32 * j) s)
  unfolding rows_in
  row_is j h = get_d_rows 32 n m s j h

  many : length (rows_in n m s) ≡ m
  unfolding rows_in
  many = length_rows 32 n m s

  first_at : (j : ℕ) → j < m → image (get_or (rows_in n m s) j []) 0 ≡ get_or s (32 * j + 0) 0
  first_at j h = ap (λ (row : Row). image row 0) (row_is j h) ∙ image_at_holds n j s 0 some

  pub one_swaps : (j : ℕ) → j < m → get_or s (32 * j + 0) 0 ≡ 1 → true ≡ any_of swaps (rows_in n m s)
  one_swaps j h e =
      let row = get_or (rows_in n m s) j [] in
      sym (holds→true (any_of swaps (rows_in n m s))
      (any_of_holds swaps row (rows_in n m s) (member_at (rows_in n m s) j [] (omega (arith, many)))
      (subst (λ (x : ℕ). T (eqb 1 x)) (sym (first_at j h ∙ e)) (eqb_refl 1))))

  pub none_swaps : (i : ℕ) → m ≤ i → NoneSwaps s m i → false ≡ any_of swaps (rows_in n m s)
  none_swaps i h c = go (any_of swaps (rows_in n m s)) refl
    where
      go : (b : Bool) → any_of swaps (rows_in n m s) ≡ b → false ≡ b
      go false e = refl
      go true e =
          let r = any_witness swaps (rows_in n m s) (true→holds e) in
          let a = at_member r.0 (rows_in n m s) [] r.1 in
          let j = a.0 in
          let below : j < m = omega (arith, a.1, many) in
          absurd (c.none j (omega arith)
          (sym (first_at j below) ∙ (ap (λ (row : Row). image row 0) a.2 ∙ sym (eqb→eq 1 (image r.0 0) r.2))))

-- one row more that does not
pub none_more : (s : List ℕ) (m i : ℕ) → NoneSwaps s m i → i < m → (get_or s (32 * i + 0) 0 ≡ 1 → ⊥)
    → NoneSwaps s m (i + 1)
none_more s m i c h e =
    record {
      turns = omega arith;
      none =
          λ j k q. ⊎_elim (λ l. e (ap (λ (x : ℕ). get_or s (32 * x + 0) 0) (at j k l) ∙ q)) (λ l. c.none j l q)
          (le_or_lt i j);
    }
  where
    at : (j : ℕ) → j < i + 1 → i ≤ j → i ≡ j
    at j k l = omega arith
