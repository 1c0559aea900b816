-- The turns of the loops that number ridges: over one orbit's ridges, and over the orbits. Leans on Ends and Areas.
use mathlib.Core.Path.{◌≡◌, refl, sym, ap, subst, ◌∙◌}
use mathlib.Core.List.{List, [], ◌∷◌, ◌++◌, map-append}
use Prim.Native.Nat.{ℕ, ◌+◌, ◌*◌, ◌-◌, ◌%◌, ◌≤◌, ◌<◌}
use native.Mathlib.Omega.{arith}
use lib.ListN.{length, get_or, take, drop, length-map, take-append-drop}
use lib.Seq.{length-take-le, take_all}
use Rattle.definitions.specs.Lists.{Pair, map_with}
use Rattle.definitions.specs.Orbits.{Row}
use Rattle.laws.specs.Parts.{take_more}
use Rattle.laws.specs.Segments.{placed}
use Rattle.pool.specs.Pool.{count, base, used, closed_lists, emptied, pushed, ended, closed_length}
use Rattle.pool.specs.Holds.{Holds}
use Rattle.rows.specs.Rows.{rows_in}
use Rattle.rows.specs.Codes.{pair_of}
use Rattle.shapes.specs.Ridges.{KnownKeys, no_keys}
use Rattle.shapes.specs.Kept.{number_ends}
use Rattle.layout.specs.declared.KeptLayout.{KeptLayout}
use Rattle.layout.specs.Keeps.{ridges_part}
use Rattle.shares.specs.Areas.{area, flat, Space, clear_kept, clear_ready, area_kept, flat_more, grown_none}
use Rattle.shares.specs.Areas.{grown_ready, grown_more, grown_all, AreaEmpty, Joined, AreaGrown, joined_none, push_asks}
use Rattle.shares.specs.Areas.{joined_push, end_asks, joined_end}
use Rattle.numbering.specs.declared.RidgeOrbits.{RidgeOrbits}
use Rattle.numbering.specs.RidgesMatch.{RidgesMatch}
use Rattle.shares.specs.Ends.{Reads, reads_kept, ridges_at, all_numbered, AllNumbered, all_more, all_few, all_long}
use Rattle.shares.specs.Ends.{all_count, ends_in, numbered, with_more, with_append, with_length, counts_up, number_up}

-- ---- one orbit

module _ (rows : List Row) (keys : KnownKeys Pair) where
  ends_more : (codes : List ℕ) (i : ℕ) → i < length codes
      → ends_in (take (i + 1) codes) ≡ ends_in (take i codes) ++ (pair_of (get_or codes i 0 % 65536) ∷ [])
  unfolding ends_in
  ends_more codes i h =
      ap ends_in (take_more codes i 0 h)
      ∙ map-append (λ (c : ℕ). pair_of (c % 65536)) (take i codes) (get_or codes i 0 ∷ [])

  pub numbered_more : (codes : List ℕ) (i : ℕ) → i < length codes
      → numbered rows keys (take (i + 1) codes)
      ≡ (
        (numbered rows keys (take i codes)).0
            ++ ((number_ends rows (numbered rows keys (take i codes)).1 (pair_of (get_or codes i 0 % 65536))).0 ∷ []),
        (number_ends rows (numbered rows keys (take i codes)).1 (pair_of (get_or codes i 0 % 65536))).1,
      )
  unfolding numbered
  numbered_more codes i h =
      ap (map_with (number_ends rows) keys) (ends_more codes i h)
      ∙ with_more (number_ends rows) keys (ends_in (take i codes)) (pair_of (get_or codes i 0 % 65536))

  pub numbered_length : (codes : List ℕ) → length (numbered rows keys codes).0 ≡ length codes
  unfolding numbered ends_in
  numbered_length codes =
      with_length (number_ends rows) keys (ends_in codes) ∙ length-map codes (λ (c : ℕ). pair_of (c % 65536))

  -- ridge orbits so far are no more than in the end
  pub numbered_few : (codes : List ℕ) (i : ℕ)
      → length (numbered rows keys (take i codes)).1.counts ≤ length (numbered rows keys codes).1.counts
  unfolding numbered ends_in
  numbered_few codes i =
      let f : ℕ → Pair = λ c. pair_of (c % 65536) in
      let e : ends_in codes ≡ ends_in (take i codes) ++ ends_in (drop i codes) =
      ap ends_in (sym (take-append-drop i codes)) ∙ map-append f (take i codes) (drop i codes) in
      let g = ap (λ (l : List Pair). length (map_with (number_ends rows) keys l).1.counts) e
      ∙ ap (λ (r : List ℕ × KnownKeys Pair). length r.1.counts)
      (with_append (number_ends rows) keys (ends_in (take i codes)) (ends_in (drop i codes))) in
      omega (
        arith,
        counts_up (number_ends rows) (number_up rows)
            (map_with (number_ends rows) keys (ends_in (take i codes))).1 (ends_in (drop i codes)),
      )

-- the first i ridges of an orbit are numbered
pub record Step (m : ℕ) (rows : List ℕ) (from to : ℕ) (codes ws₀ : List ℕ) (keys : KnownKeys Pair)
    (opened : RidgeOrbits) (ws : List ℕ) (i : ℕ) : Type 0 where
  pub stands : RidgesMatch opened (numbered (rows_in 32 m rows) keys (take i codes)).1
  pub joined : Joined from to 2 256 ws₀ ws (numbered (rows_in 32 m rows) keys (take i codes)).0

pub record Numbers (m : ℕ) (rows : List ℕ) (from to : ℕ) (codes : List ℕ) (opened₀ : RidgeOrbits) (ws₀ : List ℕ)
    (opened : RidgeOrbits) (ws : List ℕ) (i : ℕ) : Type 0 where
  pub within : i ≤ length codes
  pub long : length ws ≡ length ws₀
  pub front : take from ws ≡ take from ws₀
  pub each : (keys : KnownKeys Pair) → RidgesMatch opened₀ keys → Step m rows from to codes ws₀ keys opened ws i

module _ {m : ℕ} {rows : List ℕ} {from to : ℕ} {codes ws₀ : List ℕ}
    (ready : AreaEmpty from to 2 256 ws₀ (length codes) 1) where
  pub numbers_start : (opened : RidgeOrbits) → Numbers m rows from to codes opened ws₀ opened ws₀ 0
  unfolding numbered ends_in map_with
  numbers_start opened = record {
    within = omega arith;
    long = refl;
    front = refl;
    each = λ keys st. record { stands = st; joined = joined_none ready.space };
  }

  module _ {opened₀ opened : RidgeOrbits} {ws : List ℕ} {i : ℕ}
      (t : Numbers m rows from to codes opened₀ ws₀ opened ws i) where
    new_length : (keys : KnownKeys Pair) → length (numbered (rows_in 32 m rows) keys (take i codes)).0 ≡ i
    new_length keys = numbered_length (rows_in 32 m rows) keys (take i codes) ∙ length-take-le i codes t.within

    module _ (h : i < length codes) where
      -- what `number_ridge` and `push` ask
      pub step_asks : (key : ℕ) → key ≡ get_or codes i 0 % 65536 → (keys : KnownKeys Pair) → RidgesMatch opened₀ keys
          → length (numbered (rows_in 32 m rows) keys codes).1.counts ≤ 190
          → (keys : KnownKeys Pair) × RidgesMatch opened keys
          × (length (number_ends (rows_in 32 m rows) keys (pair_of key)).1.counts ≤ 190)
      step_asks key e keys st few =
          let n = ap (λ (r : List ℕ × KnownKeys Pair). length r.1.counts)
          (numbered_more (rows_in 32 m rows) keys codes i h) in (
            (numbered (rows_in 32 m rows) keys (take i codes)).1,
            (t.each keys st).stands,
            rw e (omega (arith, numbered_few (rows_in 32 m rows) keys codes (i + 1))),
          )

      pub step_push : (keys : KnownKeys Pair) → RidgesMatch opened₀ keys
          → (base 256 + 2 * (used (area from to ws) + 1) ≤ length (area from to ws))
          × (used (area from to ws) + 1 < 4294967296)
      step_push keys st = push_asks ready.space (t.each keys st).joined (omega (arith, new_length keys))

      pub step_more : (key : ℕ) → key ≡ get_or codes i 0 % 65536 → (number : ℕ) → number < 65536
          → (opened' : RidgeOrbits)
          → ((keys : KnownKeys Pair) → RidgesMatch opened keys
          → (number ≡ (number_ends (rows_in 32 m rows) keys (pair_of key)).0)
          × RidgesMatch opened' (number_ends (rows_in 32 m rows) keys (pair_of key)).1)
          → (p : List ℕ) → p ≡ pushed 2 256 (area from to ws) number → (keys : KnownKeys Pair)
          → RidgesMatch opened₀ keys
          → Numbers m rows from to codes opened₀ ws₀ opened' (placed from (to - from) ws p) (i + 1)
      step_more key e number small opened' f p q keys₀ st₀ =
          let j = joined_push ready.space (t.each keys₀ st₀).joined (omega (arith, new_length keys₀)) number p
          (omega arith) q in
          record {
            within = omega arith;
            long = j.long;
            front = j.front;
            each = λ keys st.
                let before = numbered (rows_in 32 m rows) keys (take i codes) in
                let g = f before.1 (t.each keys st).stands in
                let more : numbered (rows_in 32 m rows) keys (take (i + 1) codes)
                ≡ (before.0 ++ (number ∷ []), (number_ends (rows_in 32 m rows) before.1 (pair_of key)).1) =
                numbered_more (rows_in 32 m rows) keys codes i h ∙ (rw (g.0, e) refl) in
                record {
                  stands = subst (λ (r : List ℕ × KnownKeys Pair). RidgesMatch opened' r.1) (sym more) g.1;
                  joined =
                      subst
                      (λ (r : List ℕ × KnownKeys Pair). Joined from to 2 256 ws₀ (placed from (to - from) ws p) r.0)
                      (sym more) (joined_push ready.space (t.each keys st).joined (omega (
                        arith,
                        new_length keys,
                      )) number p (omega arith) q);
                };
          }

    module _ (h : length codes ≤ i) where
      all_taken : take i codes ≡ codes
      all_taken = take_all i codes h

      pub step_end_asks : (keys : KnownKeys Pair) → RidgesMatch opened₀ keys
          → (16 + 4 * count (area from to ws) ≤ length (area from to ws)) × (count (area from to ws) + 1 < 4294967296)
      step_end_asks keys st = end_asks ready (t.each keys st).joined (omega arith)

      pub step_end : (p : List ℕ) → p ≡ ended (area from to ws) → (keys : KnownKeys Pair) → RidgesMatch opened₀ keys
          → RidgesMatch opened (numbered (rows_in 32 m rows) keys codes).1 × AreaGrown from to 2 256 ws₀
          (placed from (to - from) ws p) ((numbered (rows_in 32 m rows) keys codes).0 ∷ [])
      step_end p q keys st =
          let r = t.each keys st in (
            subst (λ (l : List ℕ). RidgesMatch opened (numbered (rows_in 32 m rows) keys l).1) all_taken r.stands,
            subst (λ (l : List ℕ).
                AreaGrown from to 2 256 ws₀ (placed from (to - from) ws p)
                ((numbered (rows_in 32 m rows) keys l).0 ∷ [])) all_taken
                (joined_end ready r.joined (omega arith) p q),
          )

-- ---- all orbits

-- what the loop over the orbits begins with
pub record Begun (m : ℕ) (rows : List ℕ) (layout : KeptLayout) (from to : ℕ) (ws₀ : List ℕ) (orbits : ℕ) : Type 0 where
  pub reads : Reads m rows layout ws₀ from
  pub ready : AreaEmpty from to 2 256 ws₀ (length (flat (closed_lists 4 256 (ridges_part layout ws₀)))) orbits
  pub many : orbits ≡ count (ridges_part layout ws₀)
  pub few : length
      (all_numbered (rows_in 32 m rows) (no_keys Pair) (closed_lists 4 256 (ridges_part layout ws₀))).1.counts ≤ 190

-- the first o orbits are numbered
pub record Orbits (m : ℕ) (rows : List ℕ) (layout : KeptLayout) (from to : ℕ) (ws₀ ws : List ℕ) (opened : RidgeOrbits)
    (o : ℕ) : Type 0 where
  pub stands : RidgesMatch opened
      (all_numbered (rows_in 32 m rows) (no_keys Pair) (take o (closed_lists 4 256 (ridges_part layout ws₀)))).1
  pub grown : AreaGrown from to 2 256 ws₀ ws
      (all_numbered (rows_in 32 m rows) (no_keys Pair) (take o (closed_lists 4 256 (ridges_part layout ws₀)))).0

module _ {m : ℕ} {rows : List ℕ} {layout : KeptLayout} {from to : ℕ} {ws₀ : List ℕ} {orbits : ℕ}
    (b : Begun m rows layout from to ws₀ orbits) where
  lists : List (List ℕ)
  lists = closed_lists 4 256 (ridges_part layout ws₀)

  all : ℕ → List (List ℕ) × KnownKeys Pair
  all o = all_numbered (rows_in 32 m rows) (no_keys Pair) (take o lists)

  lists_long : length lists ≡ orbits
  unfolding lists
  lists_long = closed_length 4 256 (ridges_part layout ws₀) ∙ sym b.many

  pub orbits_start : (opened : RidgeOrbits) → RidgesMatch opened (no_keys Pair)
      → Orbits m rows layout from to ws₀ ws₀ opened 0
  unfolding all_numbered map_with
  orbits_start opened h = record { stands = h; grown = grown_none b.ready }

  module _ {ws : List ℕ} {opened : RidgeOrbits} {o : ℕ} (r : Orbits m rows layout from to ws₀ ws opened o) where
    module _ (h : o < orbits) where
      same : ridges_part layout ws ≡ ridges_part layout ws₀
      same = area_kept from layout.ridges layout.places ws₀ ws r.grown.front b.reads.order b.reads.before

      inside_lists : o < length lists
      inside_lists = omega (arith, lists_long)

      taken : length (flat (all o).0) + length (get_or lists o []) ≤ length (flat lists)
      unfolding all lists
      taken = omega (arith, all_long (rows_in 32 m rows) (no_keys Pair) (take o lists), flat_more lists o inside_lists)

      so_many : length (all o).0 + 1 ≤ orbits
      unfolding all
      so_many =
          omega (
            arith,
            all_count (rows_in 32 m rows) (no_keys Pair) (take o lists),
            length-take-le o lists (omega (arith, inside_lists)),
          )

      few_then : length (numbered (rows_in 32 m rows) (all o).1 (get_or lists o [])).1.counts ≤ 190
      unfolding all lists
      few_then =
          let e = ap (λ (r : List (List ℕ) × KnownKeys Pair). length r.1.counts)
          (all_more (rows_in 32 m rows) (no_keys Pair) lists o inside_lists) in
          omega (arith, all_few (rows_in 32 m rows) (no_keys Pair) lists (o + 1), b.few)

      pub orbit_asks : Reads m rows layout ws from × (o < count (ridges_part layout ws))
          × AreaEmpty from to 2 256 ws (length (ridges_at layout ws o)) 1
          × ((keys : KnownKeys Pair) × RidgesMatch opened keys
          × (length (numbered (rows_in 32 m rows) keys (ridges_at layout ws o)).1.counts ≤ 190))
      unfolding all lists
      orbit_asks = (
        reads_kept m rows layout ws₀ ws from r.grown.front r.grown.long b.reads,
        rw same (omega (arith, b.many)),
        rw same (grown_ready b.ready r.grown (length (get_or lists o [])) 1 taken so_many),
        ((all o).1, r.stands, rw same few_then),
      )

      pub orbits_more : {ws' : List ℕ} {opened' : RidgeOrbits}
          → ((keys : KnownKeys Pair) → RidgesMatch opened keys
          → length (numbered (rows_in 32 m rows) keys (ridges_at layout ws o)).1.counts ≤ 190
          → RidgesMatch opened' (numbered (rows_in 32 m rows) keys (ridges_at layout ws o)).1
          × AreaGrown from to 2 256 ws ws' ((numbered (rows_in 32 m rows) keys (ridges_at layout ws o)).0 ∷ []))
          → Orbits m rows layout from to ws₀ ws' opened' (o + 1)
      unfolding all lists
      orbits_more {ws'} {opened'} f =
          let g = rw same at (f (all o).1 r.stands (rw same few_then)) in
          let e = all_more (rows_in 32 m rows) (no_keys Pair) lists o inside_lists in
          record {
            stands = subst (λ (q : List (List ℕ) × KnownKeys Pair). RidgesMatch opened' q.1) (sym e) g.0;
            grown =
                subst (λ (q : List (List ℕ) × KnownKeys Pair). AreaGrown from to 2 256 ws₀ ws' q.0) (sym e)
                (grown_more b.ready r.grown g.1);
          }

    pub orbits_end : orbits ≤ o → Holds 2 256 (area from to ws₀) [] [] 0 → (s : List ℕ) → length ws₀ ≡ length s
        → take from ws₀ ≡ take from s
        → AllNumbered m rows from to (closed_lists 4 256 (ridges_part layout s)) s ws opened.counts.items
    unfolding all lists
    orbits_end h none s long front =
        let e : take o lists ≡ lists = take_all o lists (omega (arith, lists_long)) in
        let p : ridges_part layout s ≡ ridges_part layout ws₀ =
        sym (area_kept from layout.ridges layout.places s ws₀ front b.reads.order b.reads.before) in
        let st = subst (λ (l : List (List ℕ)).
        RidgesMatch opened (all_numbered (rows_in 32 m rows) (no_keys Pair) l).1) e r.stands in
        let g = subst (λ (l : List (List ℕ)).
        AreaGrown from to 2 256 ws₀ ws (all_numbered (rows_in 32 m rows) (no_keys Pair) l).0) e r.grown in
        let a = grown_all none g in
        let n = all_long (rows_in 32 m rows) (no_keys Pair) lists in
        rw p record {
          long = r.grown.long ∙ long;
          front = r.grown.front ∙ front;
          numbers = record { sound = a.sound; lists_are = a.lists_are; open_is = a.open_is; many_are = a.many_are ∙ n };
          counts_are = st.counts_are;
        }

pub begun : {m : ℕ} {rows : List ℕ} {layout : KeptLayout} {from to : ℕ} (s : List ℕ) {orbits : ℕ}
    → Reads m rows layout s from → orbits ≡ count (ridges_part layout s)
    → Space from to 2 256 (length s) (length (flat (closed_lists 4 256 (ridges_part layout s)))) orbits
    → length (all_numbered (rows_in 32 m rows) (no_keys Pair) (closed_lists 4 256 (ridges_part layout s))).1.counts
    ≤ 190
    → (p : List ℕ) → p ≡ emptied (area from to s) → Begun m rows layout from to (placed from (to - from) s p) orbits
begun {m} {rows} {layout} {from} {to} s {orbits} reads many space few p e =
    let k = clear_kept s space p e in
    let same : ridges_part layout (placed from (to - from) s p) ≡ ridges_part layout s =
    area_kept from layout.ridges layout.places s (placed from (to - from) s p) k.1 reads.order reads.before in
    record {
      reads = reads_kept m rows layout s (placed from (to - from) s p) from k.1 k.0 reads;
      ready = rw same (clear_ready s space p e);
      many = rw same many;
      few = rw same few;
    }
