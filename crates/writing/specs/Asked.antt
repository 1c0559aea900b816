-- What the functions on parts of the workspace ask, from what it holds (`ListsHeld`). Leans on EdgesHeld.
use Rattle.std.specs.Prelude.{◌≡◌, List, [], ◌++◌, ℕ, ◌+◌, ◌*◌, ◌-◌, ◌≤◌, ◌<◌, length, get_or, take, drop}
use Rattle.std.proofs.Common.{sym, ◌∙◌, subst, arith}
use Rattle.std.proofs.Math.Path.{ap}
use Rattle.definitions.specs.Job.{number_at, counted, compound_words}
use Rattle.laws.specs.Lists.{member_at}
use Rattle.laws.specs.Segments.{part, part_length}
use Rattle.words.specs.Words.{number_at_drop}
use Rattle.pool.specs.Pool.{count, Sound}
use Rattle.order.specs.Areas.{list_at, lists_length}
use Rattle.order.specs.Areas.{number_is as place-number, HoldsOrder, lists_in}
use Rattle.order.specs.Numbers.{ItemsBelow}
use Rattle.layout.specs.Leaves.{lists_left, order_left, emitted_pool, both_at, both_left, both_length, order_inside}
use Rattle.layout.specs.Leaves.{both_at_holds, both_below}
use Rattle.layout.specs.declared.Level.{Level}
use Rattle.possible_facets.specs.Facets.{list_words}
use Rattle.writing.specs.EdgesHeld.{ListsHeld, both_words}
use Rattle.definitions.specs.Figures.{compounds_from}
use Rattle.labels.specs.Labels.{labels_in}
use Rattle.layout.specs.Keeps.{owners_part}
use Rattle.figure_words.specs.Laws.{rest_is}

module _ {level : Level} {s : List ℕ} (h : ListsHeld level s) where
  abbrev rest : List ℕ
  rest = take (length s - level.lists) (drop level.lists s)

  pub area_asked : HoldsOrder 1024 level.bytes level.count rest
  area_asked = subst (HoldsOrder 1024 level.bytes level.count) (sym (rest_is level.lists s)) h.area

  pub lists_are : lists_in 1024 level.bytes level.count rest ≡ lists_left level s
  lists_are = ap (lists_in 1024 level.bytes level.count) (rest_is level.lists s)

  pub many_lists : length (lists_left level s) ≡ level.count
  many_lists = lists_length 1024 level.bytes level.count (drop level.lists s)

  pub numbers_asked : (bound k : ℕ) → level.layout.facets ≤ bound → k < level.count
      → ItemsBelow bound (get_or (lists_in 1024 level.bytes level.count rest) k [])
  numbers_asked bound k b g =
      subst (λ (ls : List (List ℕ)). ItemsBelow bound (get_or ls k [])) (sym lists_are)
      (λ x i. omega (
        arith,
        h.numbers (get_or (lists_left level s) k [])
            (member_at (lists_left level s) k [] (omega (arith, many_lists))) x i,
      ))

  pub numbers_inside : (bound k : ℕ) → level.layout.facets ≤ bound → k < level.count
      → ItemsBelow bound (get_or (lists_left level s) k [])
  numbers_inside bound k b g x i =
      omega (
        arith,
        h.numbers (get_or (lists_left level s) k [])
            (member_at (lists_left level s) k [] (omega (arith, many_lists))) x i,
      )

  -- the number at a place, and the two lists that it names
  pub number_is : (k : ℕ) → k < level.count
      → number_at s (level.lists + level.bytes + 2 * k) 2 ≡ get_or (order_left level s) k 0
  number_is k g =
      let e : level.lists + level.bytes + 2 * k ≡ level.lists + (level.bytes + 2 * k) = omega arith in
      ap (λ (a : ℕ). number_at s a 2) e
      ∙ (sym (number_at_drop s level.lists (level.bytes + 2 * k) 2)
      ∙ place-number 1024 level.bytes level.count (drop level.lists s) k g)

  pub both_asked : (k : ℕ) → k < level.count
      → ItemsBelow level.layout.facets (both_at level s (get_or (order_left level s) k 0)).0
      × ItemsBelow level.layout.facets (both_at level s (get_or (order_left level s) k 0)).1
  both_asked k g =
      subst (λ (both : List ℕ × List ℕ). ItemsBelow level.layout.facets both.0
      × ItemsBelow level.layout.facets both.1) (both_at_holds level s h.area k g)
      (both_below level s h.area h.numbers h.emitted (get_or (both_left level s) k (
        [],
        [],
      )) (member_at (both_left level s) k ([], []) (omega (arith, both_length level s))))

  pub split_asked : (k number : ℕ) → k < level.count → number ≡ get_or (order_left level s) k 0
      → (level.lists + level.bytes ≤ length s) × Sound 2 1024 (part level.lists level.bytes s)
      × (number < count (part level.lists level.bytes s))
      × ItemsBelow level.layout.facets (list_at 1024 (part level.lists level.bytes s) number)
  unfolding both_at
  split_asked k number g e =
      rw e (omega (arith, h.room), h.area.sound, order_inside level s h.area k g, (both_asked k g).0)

  pub split_inside : (k number : ℕ) → k < level.count → number ≡ get_or (order_left level s) k 0
      → (number < count (part level.lists level.bytes s))
      × ItemsBelow level.layout.facets (list_at 1024 (part level.lists level.bytes s) number)
  unfolding both_at
  split_inside k number g e = rw e (order_inside level s h.area k g, (both_asked k g).0)

  pub emitted_asked : (k number : ℕ) → k < level.count → number ≡ get_or (order_left level s) k 0
      → (level.emitted + level.extent ≤ length s) × Sound 2 1024 (emitted_pool level s)
      × (number < count (emitted_pool level s))
      × ItemsBelow level.layout.facets (list_at 1024 (emitted_pool level s) number)
  unfolding both_at
  emitted_asked k number g e =
      rw e (
        omega (arith, h.room, h.emitted.before),
        h.emitted.sound,
        omega
            (arith, h.emitted.as_many, order_inside level s h.area k g),
        (both_asked k g).1,
      )

  pub emitted_inside : (k number : ℕ) → k < level.count → number ≡ get_or (order_left level s) k 0
      → (number < count (emitted_pool level s))
      × ItemsBelow level.layout.facets (list_at 1024 (emitted_pool level s) number)
  unfolding both_at
  emitted_inside k number g e =
      rw e (omega (arith, h.emitted.as_many, order_inside level s h.area k g), (both_asked k g).1)

  -- what both are together
  pub both_written : (owners : List ℕ) (k number : ℕ) → k < level.count → number ≡ get_or (order_left level s) k 0
      → list_words owners (list_at 1024 (part level.lists level.bytes s) number) ++ list_words owners
      (list_at 1024 (emitted_pool level s) number) ≡ both_words owners (get_or (both_left level s) k ([], []))
  unfolding both_words both_at
  both_written owners k number g e =
      ap (λ (i : ℕ). both_words owners (both_at level s i)) e
      ∙ ap (both_words owners) (sym (both_at_holds level s h.area k g))

  pub owners_asked : 2 * level.layout.facets ≤ length (owners_part level.layout s)
  owners_asked =
      let f = h.fits in
      let e = part_length level.layout.owners (level.layout.ridges - level.layout.owners) s
      (omega (arith, f.owner_room, f.ridge_room, f.place_room, f.ends)) in
      omega (arith, e, f.owner_room, h.few_facets)

  pub labels_are : counted compound_words (compounds_from 0 (labels_in (level.bytes + 2048) level.count rest))
      ≡ counted compound_words (compounds_from 0 (labels_in (level.bytes + 2048) level.count (drop level.lists s)))
  labels_are =
      ap (λ (r : List ℕ). counted compound_words (compounds_from 0 (labels_in (level.bytes + 2048) level.count r)))
      (rest_is level.lists s)
