-- There is room in the kept areas for what the next inner call leaves, for any capacities that name as much, with edges
-- of two bytes and ridges of four. Leans on Amounts, Rooms and the capacities.
use Rattle.std.specs.Prelude.{◌≡◌, refl, List, map, ℕ, ◌+◌, ◌*◌, ◌≤◌, ◌<◌, length}
use Rattle.std.proofs.Common.{sym, ap, ◌∙◌, subst, arith, mul-le-mul_left, mul-le-mul_right}
use Rattle.std.proofs.Math.Nat.{mul-add, mul_comm, le_trans}
use Rattle.laws.specs.Lists.{Mem, of_map}
use Rattle.shapes.specs.Kept.{Kept, kept_of}
use Rattle.definitions.specs.Recursion.{Inner}
use Rattle.layout.specs.Keeps.{Keeps, facets_in, places_of}
use Rattle.layout.specs.declared.KeptLayout.{KeptLayout}
use Rattle.layout.specs.declared.Capacities.{Capacities}
use Rattle.layout.specs.Capacities.{Bounded, kept_layout, kept_room, kept_small}
use Rattle.keep.specs.Rooms.{RoomFor, kept_evenly, places_number}
use Rattle.inner_answers.specs.Amounts.{Amounts, Most}

-- a layout whose areas lie as another's do
pub record Laid (layout other : KeptLayout) : Type 0 where
  pub edges : layout.edges ≡ other.edges
  pub labels : layout.labels ≡ other.labels
  pub owners : layout.owners ≡ other.owners
  pub ridges : layout.ridges ≡ other.ridges
  pub places : layout.places ≡ other.places
  pub end : layout.end ≡ other.end

pub laid_same : {layout : KeptLayout} → Laid layout layout
laid_same = record { edges = refl; labels = refl; owners = refl; ridges = refl; places = refl; end = refl }

pub laid_as : {a b c : KeptLayout} → Laid a b → Laid b c → Laid a c
laid_as x y = record {
  edges = x.edges ∙ y.edges;
  labels = x.labels ∙ y.labels;
  owners = x.owners ∙ y.owners;
  ridges = x.ridges ∙ y.ridges;
  places = x.places ∙ y.places;
  end = x.end ∙ y.end;
}

module _ (n : ℕ) (layout : KeptLayout) (done : List Inner) (s : List ℕ)
    (keeps : Keeps n layout (map kept_of done) s) where
  abbrev kept : List Kept
  kept = map kept_of done

  evenly : (k : Kept) → Mem k kept → length k.edges ≡ facets_in k
  evenly k m =
      let r = of_map kept_of k done m in
      subst (λ (x : Kept). length x.edges ≡ facets_in x) (sym r.2) (kept_evenly r.0)

  facets_many : length (places_of kept) ≡ layout.facets
  facets_many = places_number kept ∙ sym keeps.facets

  orbits_many : length kept ≡ layout.orbits
  orbits_many = sym keeps.orbits

  -- there are as many facets as the orbits have at most
  pub facets_few : (most : Most) → Amounts most kept → layout.facets ≤ most.facets * layout.orbits
  facets_few most m = omega (arith, m.facets, facets_many, ap (λ (k : ℕ). most.facets * k) orbits_many)

  -- as long as fewer orbits are kept than the capacities name, and the facets are 1,024 at most with those that come
  pub room_for : (c : Capacities) (most : Most) → Bounded c → c.edge_bytes ≡ 2 → c.ridge_bytes ≡ 4
      → most.edges ≤ c.edges → most.ridges ≤ c.ridges → most.places ≤ c.ridges → Amounts most kept
      → Laid layout (kept_layout c) → layout.orbits < c.orbits → (facets edges ridges places : ℕ)
      → layout.facets + facets ≤ 1024 → edges ≤ most.edges * facets → ridges ≤ most.ridges
      → places ≤ most.places * facets → RoomFor layout kept facets edges ridges places
  room_for c most b two four le lr lp m l few facets edges ridges places hf he hr hp =
      let f = facets_many in
      let o = orbits_many in
      let all_edges = all_of most.edges c.edges (length (places_of kept)) facets le (omega arith) in
      let all_places = all_of most.places c.ridges (length (places_of kept)) facets lp (omega arith) in
      let more : most.ridges * (length kept + 1) ≤ c.orbits * c.ridges =
      rw (mul_comm c.orbits c.ridges) (le_trans (mul-le-mul_right (length kept + 1) lr)
      (mul-le-mul_left c.ridges (omega arith))) in
      let one = mul-add most.ridges (length kept) 1 in
      let w : c.edge_bytes * (1024 * c.edges) ≡ 2 * (1024 * c.edges) = ap (λ (k : ℕ). k * (1024 * c.edges)) two in
      let v : c.ridge_bytes * (c.orbits * c.ridges) ≡ 4 * (c.orbits * c.ridges) =
      ap (λ (k : ℕ). k * (c.orbits * c.ridges)) four in
      record {
        orbit_room = omega (arith, b.few_orbits);
        facet_room = hf;
        evenly = evenly;
        edge_room = omega (arith, l.edges, l.labels, m.edges, all_edges, f, w, (kept_room c).0);
        ridge_room = omega (arith, l.ridges, l.places, m.ridges, more, one, v, (kept_room c).1);
        place_room = omega (arith, l.places, l.end, m.places, all_places, f, (kept_room c).2);
        small = omega (arith, l.end, kept_small c b);
      }
    where
      all_of : (most cap have come : ℕ) → most ≤ cap → have + come ≤ 1024 → most * have + most * come ≤ 1024 * cap
      all_of most cap have come h k =
          let a = mul-add most have come in
          let b : most * (have + come) ≤ most * 1024 = mul-le-mul_left most k in
          omega arith
