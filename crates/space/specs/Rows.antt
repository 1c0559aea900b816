-- Vectors in rows of five, zeros behind them: a row joins, and a row is read. Leans on Meaning and on the laws of
-- segments and rows.
use Rattle.std.specs.Prelude.{◌≡◌, refl, List, [], ◌∷◌, ◌++◌, ℕ, zero, suc, ◌+◌, ◌*◌, ◌≤◌, ◌<◌, length, take, drop}
use Rattle.std.specs.Prelude.{Float}
use Rattle.std.proofs.Common.{sym, ap, ◌∙◌, append_assoc, append-nil, arith, length-append, length-take, take_at}
use Rattle.std.proofs.Common.{drop_at, drop-drop}
use Rattle.std.proofs.Math.Nat.{min-le_left}
use Rattle.definitions.specs.Vectors.{Vec}
use Rattle.laws.specs.Parts.{rows}
use Rattle.laws.specs.Segments.{onto, take_onto, drop_onto, onto_length}
use Rattle.vectors.specs.Meaning.{zeros, five}
use Rattle.vectors.specs.Wholes.{five_length, zeros_length}
use Rattle.space.specs.Fits.{joined, in_rows}

joined_more : (vs : List Vec) (v : Vec) → joined (vs ++ (v ∷ [])) ≡ joined vs ++ five v
unfolding joined
joined_more [] v = append-nil (five v)
joined_more (u ∷ vs) v = rw (joined_more vs v) (sym (append_assoc (five u) (joined vs) (five v)))

-- each of n rows takes five places
pub row_long : (d : ℕ) (flat : List Float) → d ≤ 5 → length (five (take d flat)) ≡ 5
row_long d flat few = five_length (take d flat) (rw (length-take d flat) (omega (arith, min-le_left d (length flat))))

pub joined_length : (d n : ℕ) (flat : List Float) → d ≤ 5 → length (joined (rows 5 d n flat)) ≡ 5 * n
unfolding joined rows
joined_length d zero flat few = refl
joined_length d (suc n) flat few =
    omega (
      arith,
      length-append (five (take d flat)) (joined (rows 5 d n (drop 5 flat))),
      row_long d flat few,
      joined_length d n (drop 5 flat) few,
    )

pub rows_length : (most d n : ℕ) (flat : List Float) → d ≤ 5 → 5 * n ≤ most
    → length (in_rows most (rows 5 d n flat)) ≡ most
unfolding in_rows
rows_length most d n flat few fits =
    onto_length (joined (rows 5 d n flat)) (zeros most) (omega (arith, joined_length d n flat few, zeros_length most))
    ∙ zeros_length most

-- A row that holds a vector joins the rows before it.
pub row_joins : (most n : ℕ) (vs : List Vec) (flat row : List Float) (v : Vec) → length (joined vs) ≡ 5 * n
    → length row ≡ 5 → row ≡ five v → flat ≡ in_rows most vs
    → take (5 * n) flat ++ (row ++ drop (5 * n + 5) flat) ≡ in_rows most (vs ++ (v ∷ []))
unfolding in_rows onto
row_joins most n vs flat row v long five-long is flat_is =
    let front : take (5 * n) flat ≡ joined vs = rw flat_is (take_onto (joined vs) (zeros most) (5 * n) (sym long)) in
    let rest : drop (5 * n) flat
    ≡ drop (5 * n) (zeros most) = rw flat_is (drop_onto (joined vs) (zeros most) (5 * n) (sym long)) in
    let behind : drop (5 * n + 5) flat ≡ drop (5 * n + 5) (zeros most) = sym (drop-drop 5 (5 * n) flat)
    ∙ (ap (drop 5) rest ∙ drop-drop 5 (5 * n) (zeros most)) in
    let wide : length (joined vs ++ row) ≡ 5 * n + 5 = omega (arith, length-append (joined vs) row) in
    rw (front, behind, joined_more vs v, ← is, wide)
    (sym (append_assoc (joined vs) row (drop (5 * n + 5) (zeros most))))

row_at : (d n : ℕ) (flat t : List Float) (i : ℕ) → d ≤ 5 → i < n
    → take 5 (drop (5 * i) (joined (rows 5 d n flat) ++ t)) ≡ five (take d (drop (5 * i) flat))
unfolding joined rows
row_at d zero flat t i few below = absurd (omega arith)
row_at d (suc n) flat t zero few below =
    let rest = joined (rows 5 d n (drop 5 flat)) in
    rw (append_assoc (five (take d flat)) rest t) (take_at (five (take d flat)) (rest ++ t) 5 (row_long d flat few))
row_at d (suc n) flat t (suc i) few below =
    let first = five (take d flat) in
    let rest = joined (rows 5 d n (drop 5 flat)) in
    let step : (l : List Float)
    → drop (5 * suc i) l ≡ drop (5 * i) (drop 5 l) = λ l. let e : 5 + 5 * i ≡ 5 * suc i = omega arith in
    ap (λ (k : ℕ). drop k l) (sym e) ∙ sym (drop-drop (5 * i) 5 l) in
    rw (
      append_assoc first rest t,
      step (first ++ (rest ++ t)),
      drop_at first (rest ++ t) 5 (row_long d flat few),
      step flat,
    ) (row_at d n (drop 5 flat) t i few (omega arith))

-- A row is read.
pub row_is : (most d n : ℕ) (flat : List Float) (i : ℕ) → d ≤ 5 → i < n → flat ≡ in_rows most (rows 5 d n flat)
    → take 5 (drop (5 * i) flat) ≡ five (take d (drop (5 * i) flat))
unfolding in_rows onto
row_is most d n flat i few below is =
    let held = joined (rows 5 d n flat) in
    ap (λ (l : List Float). take 5 (drop (5 * i) l)) is ∙ row_at d n flat (drop (length held) (zeros most)) i few below
