-- The images of a ridge, one row more. Leans on the codes of pairs.
use mathlib.Core.Path.{◌≡◌, refl, sym, ap, subst, ◌∙◌}
use mathlib.Core.Bool.{cond, true, false}
use Rattle.std.specs.Prelude.{Option, Some, None}
use Rattle.std.specs.Option.{is_none}
use mathlib.Core.List.{List, [], ◌∷◌, ◌++◌, map}
use Prim.Native.Nat.{ℕ, ◌+◌, ◌*◌, ◌/◌, ◌%◌, ◌≤◌, ◌<◌, min, max}
use native.Mathlib.Omega.{arith}
use lib.ListN.{length, get_or, set, length-set, length-append, length-map}
use Rattle.definitions.specs.Lists.{Pair, compare_pair, fresh}
use Rattle.definitions.specs.Orbits.{Row, image, pair_image}
use Rattle.laws.specs.Parts.{rows, length_rows}
use Rattle.rows.specs.Rows.{rows_in, row_at}
use Rattle.rows.specs.Codes.{pair_code, pair_of, pair_codes}
use Rattle.shapes.specs.Polygons.{edge_via}
use Rattle.shapes.specs.Ridges.{KnownKeys, open_key_orbit}
use Rattle.shapes.specs.Kept.{number_ends}
use Rattle.numbering.specs.Numbering.{Sent, MarksMatch, number_held, number_opened, opened_match, many_few, marked_at}
use Rattle.numbering.specs.Numbering.{marks_joined, many_joined, marks_more, many_more}
use Rattle.rows.specs.Codes.{code_at, codes_more}
use Rattle.laws.specs.Parts as parts

-- the code of an image, from the row's bytes
pub key_is : (i key : ℕ) (s : List ℕ) → key < 400
    → pair_code (pair_image (pair_of key) (row_at 32 i s)) ≡ 20 * min (get_or s (32 * i + key / 20) 0)
    (get_or s (32 * i + key % 20) 0) + max (get_or s (32 * i + key / 20) 0) (get_or s (32 * i + key % 20) 0)
unfolding pair_of row_at
key_is i key s h = code_at 32 i s (key / 20) (key % 20) (omega arith) (omega arith)

pub keys_more : (m key : ℕ) (s : List ℕ) → key < 400
    → pair_codes (rows_in 32 (m + 1) s) (pair_of key)
    ≡ pair_codes (rows_in 32 m s) (pair_of key) ++ (pair_code (pair_image (pair_of key) (row_at 32 m s)) ∷ [])
unfolding pair_of row_at
keys_more m key s h =
    codes_more m (key / 20) (key % 20) s (omega arith) (omega arith)
    ∙ ap (λ (c : ℕ). pair_codes (rows_in 32 m s) (pair_of key) ++ (c ∷ []))
    (sym (code_at 32 m s (key / 20) (key % 20) (omega arith) (omega arith)))

pub keys_none : (key : ℕ) (s : List ℕ) → pair_codes (rows_in 32 0 s) (pair_of key) ≡ []
unfolding pair_codes rows_in rows
keys_none key s = refl

pub code_of_key : (key : ℕ) → pair_code (pair_of key) ≡ key
unfolding pair_code pair_of
code_of_key key = omega arith

-- ---- the turns of `open_ridge`

-- the images under the first i rows have joined
pub record Opening (rows : List ℕ) (m key mark : ℕ) (marks₀ marks : List (Option ℕ)) (count i : ℕ) : Type 0 where
  pub within : i ≤ m
  pub few : count ≤ i
  pub long : length marks ≡ length marks₀
  pub marks_are : marks ≡ marks_joined marks₀ mark (pair_codes (rows_in 32 i rows) (pair_of key))
  pub count_is : count ≡ many_joined marks₀ mark (pair_codes (rows_in 32 i rows) (pair_of key))

pub opening_start : (rows : List ℕ) (m key mark : ℕ) (marks : List (Option ℕ)) → Opening rows m key mark marks marks 0 0
unfolding marks_joined many_joined
opening_start rows m key mark marks = record {
  within = omega arith;
  few = omega arith;
  long = refl;
  marks_are = rw keys_none refl;
  count_is = rw keys_none refl;
}

module _ {rows : List ℕ} {m key mark : ℕ} {marks₀ marks : List (Option ℕ)} {count i : ℕ}
    (o : Opening rows m key mark marks₀ marks count i) (h : i < m) (k : key < 400) (at : ℕ)
    (e : at ≡ pair_code (pair_image (pair_of key) (row_at 32 i rows))) where
  before : List ℕ
  before = pair_codes (rows_in 32 i rows) (pair_of key)

  more : pair_codes (rows_in 32 (i + 1) rows) (pair_of key) ≡ before ++ (at ∷ [])
  unfolding before
  more = keys_more i key rows k ∙ ap (λ (c : ℕ). before ++ (c ∷ [])) (sym e)

  marks_then : marks_joined marks₀ mark (pair_codes (rows_in 32 (i + 1) rows) (pair_of key)) ≡ marked_at marks mark at
  unfolding before
  marks_then =
      ap (marks_joined marks₀ mark) more
      ∙ (marks_more marks₀ mark before at ∙ ap (λ (l : List (Option ℕ)). marked_at l mark at) (sym o.marks_are))

  count_then : many_joined marks₀ mark (pair_codes (rows_in 32 (i + 1) rows) (pair_of key))
      ≡ count + cond (is_none (get_or marks at None)) 1 0
  unfolding before
  count_then =
      ap (many_joined marks₀ mark) more
      ∙ (many_more marks₀ mark before at
      ∙ (λ t. sym o.count_is t + cond (is_none (get_or (sym o.marks_are t) at None)) 1 0))

  pub opening_joins : is_none (get_or marks at None) ≡ true
      → Opening rows m key mark marks₀ (set marks at (Some mark)) (count + 1) (i + 1)
  unfolding marked_at
  opening_joins z = record {
    within = omega arith;
    few = omega (arith, o.few);
    long = length-set marks at (Some mark) ∙ o.long;
    marks_are = sym (marks_then ∙ rw z refl);
    count_is = sym (count_then ∙ rw z refl);
  }

  pub opening_stays : is_none (get_or marks at None) ≡ false → Opening rows m key mark marks₀ marks count (i + 1)
  unfolding marked_at
  opening_stays z = record {
    within = omega arith;
    few = omega (arith, o.few);
    long = o.long;
    marks_are = sym (marks_then ∙ rw z refl);
    count_is = sym (count_then ∙ (rw z (omega arith)));
  }

-- what the rows make of a ridge's ends
pub sent_below : {m : ℕ} {s : List ℕ} (key : ℕ) → Sent m s (pair_of key) → (i : ℕ) → i < m
    → (get_or s (32 * i + key / 20) 0 < 20) × (get_or s (32 * i + key % 20) 0 < 20)
unfolding pair_of
sent_below key sent i h = (sent.first.below i h, sent.second.below i h)

-- ---- the number of a ridge

module _ (key : ℕ) {rows : List ℕ} {m : ℕ} {marks : List (Option ℕ)} {counts : List ℕ} {keys : KnownKeys Pair}
    (sent : Sent m rows (pair_of key)) (st : MarksMatch marks counts keys) where
  same_mark : get_or marks (pair_code (pair_of key)) None ≡ get_or marks key None
  same_mark = ap (λ (k : ℕ). get_or marks k None) (code_of_key key)

  pub ridge_held : (number : ℕ) → get_or marks key None ≡ Some number
      → (number ≡ (number_ends (rows_in 32 m rows) keys (pair_of key)).0)
      × MarksMatch marks counts (number_ends (rows_in 32 m rows) keys (pair_of key)).1
  ridge_held number h =
      let e = number_held m rows (pair_of key) sent marks counts keys st number (same_mark ∙ h) in (
        sym (ap (λ (r : ℕ × KnownKeys Pair). r.0) e),
        subst (λ (r : ℕ × KnownKeys Pair). MarksMatch marks counts r.1) (sym e) st,
      )

  opens : get_or marks key None ≡ None → number_ends (rows_in 32 m rows) keys (pair_of key)
      ≡ (length counts, open_key_orbit compare_pair edge_via (rows_in 32 m rows) keys (pair_of key))
  opens z = number_opened m rows (pair_of key) sent marks counts keys st (same_mark ∙ z)

  pub ridge_opens : get_or marks key None ≡ None
      → length (number_ends (rows_in 32 m rows) keys (pair_of key)).1.counts ≤ 190 → length counts < 190
  unfolding open_key_orbit
  ridge_opens z h =
      let e = ap (λ (r : ℕ × KnownKeys Pair). length r.1.counts) (opens z) in
      let f = length-append keys.counts (length (fresh compare_pair (map (λ (h : Pair × ℕ). h.0) keys.held)
      (map (λ (row : Row). edge_via (image row) (pair_of key)) (rows_in 32 m rows))) ∷ []) in
      omega (arith, ap length st.counts_are)

  pub ridge_opened : get_or marks key None ≡ None → (number : ℕ) → number ≡ length counts
      → (joined : List (Option ℕ)) (many : ℕ)
      → joined ≡ marks_joined marks number (pair_codes (rows_in 32 m rows) (pair_of key))
      → many ≡ many_joined marks number (pair_codes (rows_in 32 m rows) (pair_of key))
      → (new : List ℕ) → new ≡ counts ++ (many ∷ [])
      → (number ≡ (number_ends (rows_in 32 m rows) keys (pair_of key)).0)
      × MarksMatch joined new (number_ends (rows_in 32 m rows) keys (pair_of key)).1
  ridge_opened z number n joined many e f new g =
      let o = opens z in (
        n ∙ sym (ap (λ (r : ℕ × KnownKeys Pair). r.0) o),
        rw (g, e, f, n) (subst (λ (r : ℕ × KnownKeys Pair).
            MarksMatch (marks_joined marks (length counts) (pair_codes (rows_in 32 m rows) (pair_of key))) (counts
            ++ (many_joined marks (length counts) (pair_codes (rows_in 32 m rows) (pair_of key)) ∷ [])) r.1) (sym o)
            (opened_match m rows (pair_of key) sent marks counts keys st)),
      )

pub many_small : {m : ℕ} (rows : List ℕ) (key number : ℕ) (marks : List (Option ℕ)) (many : ℕ) → m ≤ 120
    → many ≡ many_joined marks number (pair_codes (rows_in 32 m rows) (pair_of key)) → many ≤ 120
unfolding pair_codes rows_in
many_small {m} rows key number marks many h e =
    let l = length-map (parts.rows 32 32 m rows) (λ (row : Row). pair_code (pair_image (pair_of key) row)) in
    omega (arith, many_few marks number (pair_codes (rows_in 32 m rows) (pair_of key)), length_rows 32 32 m rows)

pub sent_small : {m : ℕ} {s : List ℕ} (key : ℕ) → Sent m s (pair_of key) → key < 400
unfolding pair_of
sent_small key sent = omega (arith, sent.first_small)
