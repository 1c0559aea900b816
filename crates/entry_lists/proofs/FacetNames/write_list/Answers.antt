-- `FacetNames::write_list` meets its contract: each facet of the list is written, in order. Assumes nothing.
use mathlib.Core.List.{[], ◌∷◌, ◌++◌, flat_map, append-nil, append_assoc}
use mathlib.Core.Path.{refl, subst, sym, ap, ◌∙◌}
use Prim.Native.Nat.{◌<◌, ℕ}
use native.Mathlib.Omega.{arith}
use Rattle.laws.specs.Lists.{Mem, here, there, flat_map_append}
use Rattle.words.specs.Words.{words}
use Rattle.order.specs.Areas.{list_short, left_in}
use Rattle.possible_facets.specs.Facets.{list_words, item_words}
use Rattle.words.specs.Wrote.{writes_none, writes_then, writes_as}
use Rattle.entry_lists.proofs.FacetNames.write_list.Goals as goal

pub overflow_cast-length : goal.overflow_cast-length
overflow_cast-length c =
    omega (
      arith,
      c.length.ensures,
      list_short c.args.lists.most c.args.lists.bytes.now c.args.lists.sound c.args.k c.requires.0,
    )

pub loop-x-init : goal.loop-x-init
unfolding flat_map
loop-x-init c = let all = ap left_in c.into_iter-x-iterator.ensures.into_iter_gives ∙ c.items-x-items.ensures in
    (λ y i. c.requires.1 y (subst (Mem y) all i), writes_none _, all)

pub write_item-requires : goal.write_item-requires
write_item-requires c = let l = c.loop-x in
    subst (λ (x : ℕ). x < c.args.self.owners.facets) (sym c.from.ensures)
    (l.invariant.0 c.in-Some.x (subst (Mem c.in-Some.x) (sym c.in-Some.ensures.steps) (here refl)))

pub loop-x-preserved : goal.loop-x-preserved
unfolding flat_map
loop-x-preserved c = let l = c.loop-x in let owners = words 2 c.args.self.owners.bytes.now c.args.self.owners.facets in
    let one = flat_map_append (item_words owners) l.yielded (c.in-Some.x ∷ [])
    ∙ ap (λ r. flat_map (item_words owners) l.yielded ++ r) (append-nil (item_words owners c.in-Some.x)) in (
      λ y i. l.invariant.0 y (subst (Mem y) (sym c.in-Some.ensures.steps) (there i)),
      writes_as (writes_then l.invariant.1 c.write_item.ensures)
          (ap (λ (x : ℕ). flat_map (item_words owners) l.yielded ++ item_words owners x) c.from.ensures ∙ sym one),
      append_assoc l.yielded (c.in-Some.x ∷ []) (left_in c.next.new.self)
          ∙ (ap (λ r. l.yielded ++ r) (sym c.in-Some.ensures.steps) ∙ l.invariant.2),
    )

pub returns : goal.returns
unfolding list_words
returns c = let l = c.loop-x in let owners = words 2 c.args.self.owners.bytes.now c.args.self.owners.facets in
    let all = sym (append-nil l.yielded) ∙ (ap (λ r. l.yielded ++ r) (sym c.in-None.ensures.steps.0) ∙ l.invariant.2) in
    writes_as (writes_then c.push.ensures.writes l.invariant.1)
    (λ t. c.length.ensures t ∷ flat_map (item_words owners) (all t))
