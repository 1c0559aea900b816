-- What a call keeps lies in the front of its workspace, before `owners` + 2,048: what is written behind changes
-- nothing of it. Leans on Keeps.
use Rattle.std.specs.Prelude.{◌≡◌, List, ℕ, ◌+◌, ◌-◌, ◌*◌, ◌≤◌, length, take, drop}
use Rattle.std.proofs.Common.{sym, ap, ◌∙◌, arith}
use Rattle.laws.specs.Segments.{part, part_take}
use Rattle.words.specs.Words.{words, words_take}
use Rattle.orbits.specs.Workspace.{orbits_in, orbits_front}
use Rattle.shapes.specs.Kept.{Kept}
use Rattle.layout.specs.declared.KeptLayout.{KeptLayout}
use Rattle.layout.specs.Keeps.{Keeps, LayoutFits, edges_part, labels_part, owners_part}

module _ (n : ℕ) (layout : KeptLayout) (kept : List Kept) (s t : List ℕ)
    (same : take (layout.owners + 2048) t ≡ take (layout.owners + 2048) s) (long : length t ≡ length s)
    (k : Keeps n layout kept s) where
  abbrev f : LayoutFits layout (length s)
  f = k.fits

  -- a part of the front
  front : (a m : ℕ) → a + m ≤ layout.owners + 2048 → part a m t ≡ part a m s
  front a m h =
      sym (part_take (layout.owners + 2048) t a m h) ∙ (ap (part a m) same ∙ part_take (layout.owners + 2048) s a m h)

  orbits_kept : orbits_in t layout.orbits ≡ orbits_in s layout.orbits
  orbits_kept =
      let h : 8 * layout.orbits
      ≤ layout.owners + 2048 = omega (arith, f.orbit_room, f.edge_room, f.label_room, k.few_orbits) in
      sym (orbits_front t (layout.owners + 2048) layout.orbits h)
      ∙ (ap (λ (r : List ℕ). orbits_in r layout.orbits) same ∙ orbits_front s (layout.owners + 2048) layout.orbits h)

  edges_kept : edges_part layout t ≡ edges_part layout s
  edges_kept = front layout.edges (layout.labels - layout.edges) (omega (arith, f.edge_room, f.label_room))

  labels_kept : labels_part layout t ≡ labels_part layout s
  labels_kept = front layout.labels (layout.owners - layout.labels) (omega (arith, f.label_room))

  owners_kept : words 2 (owners_part layout t) layout.facets ≡ words 2 (owners_part layout s) layout.facets
  owners_kept =
      own t
      ∙ (ap (λ (r : List ℕ). words 2 r layout.facets) (front layout.owners 2048 (omega arith)) ∙ sym (own s))
    where
      own : (r : List ℕ)
          → words 2 (owners_part layout r) layout.facets ≡ words 2 (part layout.owners 2048 r) layout.facets
      own r =
          words_take 2 (drop layout.owners r) (layout.ridges - layout.owners) layout.facets
          (omega (arith, f.owner_room, k.few_facets))
          ∙ sym (words_take 2 (drop layout.owners r) 2048 layout.facets (omega (arith, k.few_facets)))

  pub keeps_front : Keeps n layout kept t
  keeps_front = record {
    fits = rw long k.fits;
    orbits = k.orbits;
    facets = k.facets;
    few_orbits = k.few_orbits;
    few_facets = k.few_facets;
    sets = rw orbits_kept k.sets;
    edges = rw edges_kept k.edges;
    labels = rw labels_kept k.labels;
    owners = rw owners_kept k.owners;
  }
