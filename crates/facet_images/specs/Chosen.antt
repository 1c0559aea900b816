-- What the iterator over the chosen images has left, and that the chosen images are some of all. Leans on Images.
use Rattle.std.specs.Prelude.{◌≡◌, Bool, true, false, cond, ℕ, ◌%◌, ◌/◌, ◌≤◌, ◌<◌, length, get_or, drop}
use Rattle.std.proofs.Common.{arith, subst, sym, ◌∙◌}
use Rattle.std.proofs.lemmas.List.{get_or_default}
use mathlib.Core.List.{List, [], ◌∷◌, Memᴰ}
use Rattle.words.specs.Words.{words}
use Rattle.laws.specs.Lists.{Mem, here, there, member_at, at_member}
use Rattle.facet_images.specs.declared.Choice.{Choice}
use Rattle.facet_images.specs.Images.{IdsBelow, is_chosen, next_choice, chosen_from}
use Rattle.facet_images.specs.declared.Chosen.{Chosen}

unfoldable pub chosen_left : Chosen → List ℕ
chosen_left chosen =
    chosen_from chosen.wanted.inside.now chosen.before
    (drop chosen.at (words 4 chosen.wanted.ids.bytes.now chosen.wanted.ids.count))

module _ (inside : List Bool) where
  pub chosen_no_more : (before : Choice) (ids : List ℕ) → length (chosen_from inside before ids) ≤ length ids
  unfolding chosen_from
  chosen_no_more before [] = omega arith
  chosen_no_more before (id ∷ ids) =
      let choice = next_choice inside before id in
      go (is_chosen choice) (chosen_from inside choice ids) (chosen_no_more choice ids)
    where
      go : (b : Bool) (later : List ℕ) → length later ≤ length ids
          → length (cond b (id ∷ later) later) ≤ length (id ∷ ids)
      go true later h = omega arith
      go false later h = omega arith

  chosen_member : (before : Choice) (ids : List ℕ) (x : ℕ) → Mem x (chosen_from inside before ids) → Mem x ids
  unfolding chosen_from
  chosen_member before [] x i = i
  chosen_member before (id ∷ ids) x i =
      let choice = next_choice inside before id in
      go (is_chosen choice) (chosen_from inside choice ids) i (chosen_member choice ids x)
    where
      go : (b : Bool) (later : List ℕ) → Mem x (cond b (id ∷ later) later) → (Mem x later → Mem x ids)
          → Mem x (id ∷ ids)
      go true later (Memᴰ.head e) f = here e
      go true later (Memᴰ.tail j) f = there (f j)
      go false later j f = there (f j)

  pub chosen_below : (facets m : ℕ) (before : Choice) (ids : List ℕ) → IdsBelow facets m ids
      → IdsBelow facets m (chosen_from inside before ids)
  chosen_below facets m before ids below = record {
    facet = λ i h. let r = place i h in subst (λ (id : ℕ). id % 1024 < facets) r.2 (below.facet r.0 r.1);
    row = λ i h. let r = place i h in subst (λ (id : ℕ). id % 131072 / 1024 < m) r.2 (below.row r.0 r.1);
  }
    where
      chosen : List ℕ
      chosen = chosen_from inside before ids

      place : (i : ℕ) → i < length chosen → (k : ℕ) × (k < length ids) × (get_or ids k 0 ≡ get_or chosen i 0)
      place i h =
          at_member (get_or chosen i 0) ids 0 (chosen_member before ids (get_or chosen i 0) (member_at chosen i 0 h))

-- an image at a place, as a turn of the iterator names it
pub step_below : (facets m : ℕ) (ids : List ℕ) (i id : ℕ) → IdsBelow facets m ids
    → (i < length ids) × (id ≡ get_or ids i id) → (id % 1024 < facets) × (id % 131072 / 1024 < m)
step_below facets m ids i id below turn =
    let is : get_or ids i 0 ≡ id = get_or_default ids i 0 id turn.0 ∙ sym turn.1 in (
      subst (λ (x : ℕ). x % 1024 < facets) is (below.facet i turn.0),
      subst (λ (x : ℕ). x % 131072 / 1024 < m) is (below.row i turn.0),
    )
