-- The turns of the loop over orbits that writes the possible facets: what is written and what is left are the whole.
-- Leans on Answers.
use mathlib.Core.Path.{◌≡◌, refl, sym, ap, ◌∙◌}
use mathlib.Core.List.{List, [], ◌∷◌, ◌++◌, flat_map, append_assoc, append-nil}
use Prim.Native.Nat.{ℕ, suc, ◌+◌, ◌-◌, ◌≤◌, ◌<◌}
use native.Mathlib.Numerals.{add-one}
use native.Mathlib.Omega.{arith}
use lib.ListN.{take, drop}
use lib.Seq.{drop-drop}
use Rattle.words.specs.declared.Writer.{Writer}
use Rattle.words.specs.Wrote.{Writes, writes_then, writes_as}
use Rattle.possible_facets.specs.Facets.{leading}
use Rattle.possible_facets.specs.Possible.{possible_from}

module _ (figure : ℕ → List ℕ → List ℕ) (orbits : ℕ) (owners : List ℕ) (edges : List (List ℕ)) where
  -- the orbits before one, whose first facet is x, are written
  pub record SoFar (orbit x : ℕ) (before after : Writer) : Type 0 where
    pub words : List ℕ
    pub wrote : Writes before after words
    pub rest : words ++ possible_from figure (orbits - orbit) orbit (drop x owners) (drop x edges)
        ≡ possible_from figure orbits 0 owners edges

  module _ {orbit x : ℕ} {s t : Writer} (f : SoFar orbit x s t) where
    pub possible_more : {u v : Writer} (end : ℕ) → orbit < orbits → end ≡ x + leading orbit (drop x owners)
        → Writes t u ((end - x) ∷ []) → Writes u v (flat_map (figure orbit) (take (end - x) (drop x edges)))
        → SoFar (orbit + 1) end s v
    unfolding possible_from
    possible_more end h e a b =
        let many = leading orbit (drop x owners) in
        let m : end - x ≡ many = omega arith in
        let k : orbits - orbit ≡ suc (orbits - (orbit + 1)) = omega arith in
        let one = (end - x) ∷ flat_map (figure orbit) (take (end - x) (drop x edges)) in
        let left = possible_from figure (orbits - (orbit + 1)) (orbit + 1) (drop end owners) (drop end edges) in
        let owners-left : drop many (drop x owners) ≡ drop end owners = drop-drop many x owners
        ∙ ap (λ (j : ℕ). drop j owners) (sym e) in
        let edges_left : drop many (drop x edges) ≡ drop end edges = drop-drop many x edges
        ∙ ap (λ (j : ℕ). drop j edges) (sym e) in
        let next : possible_from figure (orbits - orbit) orbit (drop x owners) (drop x edges) ≡ one ++ left =
        ap (λ (j : ℕ). possible_from figure j orbit (drop x owners) (drop x edges)) k
        ∙ (rw (owners-left, edges_left, m, add-one orbit) refl) in
        record {
          words = f.words ++ one;
          wrote = writes_then f.wrote (writes_then a b);
          rest = append_assoc f.words one left ∙ (ap (λ (l : List ℕ). f.words ++ l) (sym next) ∙ f.rest);
        }

    pub possible_all : orbits ≤ orbit → Writes s t (possible_from figure orbits 0 owners edges)
    unfolding possible_from
    possible_all h =
        let k : orbits - orbit ≡ 0 = omega arith in
        let none : possible_from figure (orbits - orbit) orbit (drop x owners) (drop x edges)
        ≡ [] = ap (λ (j : ℕ). possible_from figure j orbit (drop x owners) (drop x edges)) k in
        writes_as f.wrote (sym (append-nil f.words) ∙ (ap (λ (l : List ℕ). f.words ++ l) (sym none) ∙ f.rest))
