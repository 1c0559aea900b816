-- The tables laid from codes of shares are those that the search reads, for any table whose shares the codes are.
-- Leans on Codes and on the layout of the search's tables.
use Rattle.std.specs.Prelude.{◌≡◌}
use Rattle.std.proofs.Math.Path.{refl, sym, ap}
use Rattle.std.proofs.Common.{◌∙◌, arith, add-one}
use mathlib.Core.List.{List, [], ◌∷◌, ◌++◌, map, flat_map, map-map, map-append, append-nil}
use Prim.Native.Nat.{ℕ, zero, suc, ◌+◌, ◌*◌, ◌≤◌, ◌<◌, min}
use Rattle.std.proofs.Math.Dec.{eqb}
use Rattle.std.proofs.Math.ListN.{length, get_or, replicate}
use Rattle.definitions.specs.Lists.{count_from, keep}
use Rattle.definitions.specs.Search.{Table, Share, Facet, shares_of, shares_at, last_share, adds, all_facets, ones_at}
use Rattle.laws.specs.Lists.{flat_map_append, of_count, count_more}
use Rattle.laws.specs.Places.{map_same}
use Rattle.pool.specs.Pool.{closed_lists}
use Rattle.pool.specs.Holds.{Holds, holds_count}
use Rattle.facets.specs.Sums.{amount}
use Rattle.facets.specs.Layout.{facet_of, ones_of, amount_in, Tables, codes}
use Rattle.facets.specs.declared.Areas.{Areas}
use Rattle.shares.specs.Areas.{lists_to, lists_long, lists_at_holds}
use Rattle.shares.specs.Shares.{share_code}
use Rattle.ridges.specs.Codes.{share_of, share_back, shares_here, amount_of, touched_of, touched_to, ones_in, ones_to}
use Rattle.ridges.specs.Codes.{amounts_are, touched_within, ones_counted, cut, cut_at, cut_amount, cut_ones}
use Rattle.ridges.specs.Codes as made

numbers_up : (n : ℕ) → count_from 0 (suc n) ≡ count_from 0 n ++ (n ∷ [])
numbers_up n =
    let e : 0 + n ≡ n = omega arith in
    ap (count_from 0) (sym (add-one n)) ∙ (count_more 0 n ∙ ap (λ (k : ℕ). count_from 0 n ++ (k ∷ [])) e)

lists_map : {A : Type 0} (at : ℕ → A) (n : ℕ) → lists_to at n ≡ map at (count_from 0 n)
unfolding lists_to count_from
lists_map at zero = refl
lists_map at (suc n) =
    ap (λ (l : List _). l ++ (at n ∷ [])) (lists_map at n)
    ∙ sym (ap (map at) (numbers_up n) ∙ map-append at (count_from 0 n) (n ∷ []))

module _ (t : Table) (lists : List (List ℕ)) (facets : ℕ)
    (same : (x : ℕ) → x < facets → get_or lists x [] ≡ map share_code (shares_of t (facet_of t x))) where
  here_is : (ridge x : ℕ) → x < facets
      → shares_here ridge (get_or lists x []) ≡ map cut (shares_at ridge (shares_of t (facet_of t x)))
  unfolding shares_here
  here_is ridge x h =
      ap (λ (l : List ℕ). shares_at ridge (map share_of l)) (same x h)
      ∙ (ap (shares_at ridge) (map-map share_of share_code (shares_of t (facet_of t x)) ∙ map_same
      (λ (s : Share). share_of (share_code s)) cut (shares_of t (facet_of t x)) (λ s m. share_back s))
      ∙ cut_at ridge (shares_of t (facet_of t x)))

  amount_is : (ridge x : ℕ) → x < facets → amount_of ridge (get_or lists x []) ≡ amount t ridge (facet_of t x)
  unfolding amount_of amount adds
  amount_is ridge x h =
      ap (λ (l : List Share). min (last_share 0 l * length l) 3) (here_is ridge x h)
      ∙ cut_amount (shares_at ridge (shares_of t (facet_of t x)))

  ones_are_holds : (ridge : ℕ) (n : ℕ) → n ≤ facets
      → ones_to ridge lists n ≡ flat_map (λ (x : ℕ). replicate (ones_at t ridge (facet_of t x)) x) (count_from 0 n)
  unfolding ones_to flat_map count_from ones_at
  ones_are_holds ridge zero h = refl
  ones_are_holds ridge (suc n) h =
      let at : ℕ → List ℕ = λ x. replicate (ones_at t ridge (facet_of t x)) x in
      let one : ones_in ridge n (get_or lists n []) ≡ at n = ones_counted ridge n (get_or lists n [])
      ∙ ap (λ (l : List Share). replicate (length (keep (λ (s : Share). eqb 1 s.1) l)) n) (here_is ridge n h)
      ∙ counted n in
      (λ i. ones_are_holds ridge n (omega arith) i ++ one i)
      ∙ sym (ap (flat_map at) (numbers_up n) ∙ (flat_map_append at (count_from 0 n) (n ∷ [])
      ∙ ap (λ (l : List ℕ). flat_map at (count_from 0 n) ++ l) (append-nil (at n))))
    where
      counted : (n : ℕ)
          → replicate
          (length (keep (λ (s : Share). eqb 1 s.1) (map cut (shares_at ridge (shares_of t (facet_of t n)))))) n
          ≡ replicate (ones_at t ridge (facet_of t n)) n
      counted n = ap (λ (k : ℕ). replicate k n) (cut_ones (shares_at ridge (shares_of t (facet_of t n))))

  -- the tables, from the pools that hold them
  pub tables_hold : (a : Areas) (os touched ones : List ℕ) (m k : ℕ) → a.facets ≡ facets
      → facets ≡ length (all_facets t) → a.ridges ≡ t.ridges → a.orbits ≡ length t.shares
      → os ≡ map (λ (f : Facet). f.0) (all_facets t)
      → Holds 2 a.facets touched (lists_to (touched_of a.ridges lists) a.facets) [] m
      → Holds 2 a.ridges ones (lists_to (made.ones_of lists a.facets) a.ridges) [] k → Tables t a os touched ones
  unfolding codes ones_of
  tables_hold a os touched ones m k ef f er eo owners p q = record {
    facets = ef ∙ f;
    ridges = er;
    orbits = eo;
    orbit_of = owners;
    touched_sound = p.sound;
    touched_count = holds_count p ∙ lists_long (touched_of a.ridges lists) a.facets;
    amounts =
        λ x h ridge r. ap (amount_in ridge) (codes_at x h)
        ∙ (amounts_are a.ridges ridge (get_or lists x []) r ∙ amount_is ridge x (omega arith));
    within = λ x h i l. rw (codes_at x h) (touched_within a.ridges (get_or lists x []) i (rw (codes_at x h) at l));
    ones_sound = q.sound;
    ones_are =
        q.lists_are ∙ (lists_map (made.ones_of lists a.facets) a.ridges
        ∙ map_same (made.ones_of lists a.facets) (ones_of t) (count_from 0 a.ridges) (λ ridge i. let c =
        of_count 0 a.ridges ridge i in
        ones_are_holds ridge a.facets (omega arith) ∙ ap (λ (n : ℕ).
        flat_map (λ (x : ℕ). replicate (ones_at t ridge (facet_of t x)) x) (count_from 0 n)) (ef ∙ f)));
  }
    where
      codes_at : (x : ℕ) → x < a.facets
          → get_or (closed_lists 2 a.facets touched) x [] ≡ touched_to a.ridges (get_or lists x [])
      codes_at x h =
          ap (λ (l : List (List ℕ)). get_or l x []) p.lists_are
          ∙ lists_at_holds (touched_of a.ridges lists) a.facets x [] h
