-- Every number given to a ridge is below the number of ridge orbits, over any rows. Leans on Ridges and KeyMarks.
use Rattle.std.specs.Prelude.{◌≡◌, Bool, cond, get_or}
use Rattle.std.proofs.Math.Path.{refl}
use Rattle.std.proofs.Common.{sym, ap, subst, ◌∙◌}
use Rattle.std.proofs.Math.Bool.{true, false}
use Rattle.std.specs.Prelude.{Option, Some, None}
use mathlib.Core.List.{List, [], ◌∷◌, map, Memᴰ}
use Prim.Native.Nat.{ℕ, zero, suc, ◌+◌, ◌≤◌, ◌<◌}
use native.Mathlib.Omega.{arith}
use Rattle.std.proofs.Math.ListN.{length, length-append, length-map}
use Rattle.definitions.specs.Lists.{Pair, compare_pair, map_with, fresh}
use Rattle.definitions.specs.Orbits.{Row, image}
use Rattle.laws.specs.Options.{none_is_not_some}
use Rattle.laws.specs.Lists.{Mem}
use Rattle.laws.specs.Orders.{pairs}
use Rattle.laws.specs.Ascending.{seen_among}
use Rattle.shapes.specs.Polygons.{edge_via}
use Rattle.shapes.specs.Ridges.{KnownKeys, no_keys, key_held_by, open_key_orbit, number_or_open_key}
use Rattle.shapes.specs.KeyMarks.{or_else, marks_after_holds}
use Rattle.shapes.specs.Kept.{Kept, number_ends, numbers_kept}
use Rattle.shares.specs.Ends.{counts_up, number_up, with_length}

record HeldNumbered (keys : KnownKeys Pair) : Type 0 where
  pub held : (p : Pair) (number : ℕ) → key_held_by compare_pair edge_via p keys.held ≡ Some number
      → number < length keys.counts

some_same : (a b : ℕ) → Some a ≡ Some b → a ≡ b
some_same a b e = ap (λ (o : Option ℕ). elim o [ None ↦ 0 | Some x ↦ x ]) e

module _ (rows : List Row) where
  opened_below : (keys : KnownKeys Pair) (k : Pair) → HeldNumbered keys
      → HeldNumbered (open_key_orbit compare_pair edge_via rows keys k)
  unfolding open_key_orbit or_else
  opened_below keys k b = record {
    held = λ p number e.
        let l = length-append keys.counts (length (fresh compare_pair (map (λ (h : Pair × ℕ). h.0) keys.held)
        (map (λ (row : Row). edge_via (image row) k) rows)) ∷ []) in
        omega (
          arith,
          either p number (key_held_by compare_pair edge_via p keys.held) refl
              (seen_among compare_pair pairs p (map (λ (row : Row). edge_via (image row) k) rows))
              (sym (marks_after_holds compare_pair pairs edge_via rows keys k p) ∙ e),
        );
  }
    where
      either : (p : Pair) (number : ℕ) (o : Option ℕ) → key_held_by compare_pair edge_via p keys.held ≡ o
          → (seen : Bool)
          → or_else (key_held_by compare_pair edge_via p keys.held) (cond seen (Some (length keys.counts)) None)
          ≡ Some number → number < length keys.counts + 1
      either p number o q seen e =
          go o q seen (ap (λ (h : Option ℕ). or_else h (cond seen (Some (length keys.counts)) None)) (sym q) ∙ e)
        where
          go : (o : Option ℕ) → key_held_by compare_pair edge_via p keys.held ≡ o → (seen : Bool)
              → or_else o (cond seen (Some (length keys.counts)) None) ≡ Some number → number < length keys.counts + 1
          go (Some old) q seen e = let s = some_same old number e in omega (arith, b.held p old q)
          go None q true e = let s = some_same (length keys.counts) number e in omega arith
          go None q false e = absurd (none_is_not_some number e)

  -- the number given, and what is held then
  number_below : (keys : KnownKeys Pair) (p : Pair) → HeldNumbered keys
      → ((number_ends rows keys p).0 < length (number_ends rows keys p).1.counts)
      × HeldNumbered (number_ends rows keys p).1
  unfolding number_ends number_or_open_key open_key_orbit
  number_below keys p b = go (key_held_by compare_pair edge_via p keys.held) refl
    where
      go : (o : Option ℕ) → key_held_by compare_pair edge_via p keys.held ≡ o
          → ((number_or_open_key compare_pair edge_via rows keys p o).0
          < length (number_or_open_key compare_pair edge_via rows keys p o).1.counts)
          × HeldNumbered (number_or_open_key compare_pair edge_via rows keys p o).1
      go (Some number) e = (b.held p number e, b)
      go None e = (opened_longer, opened_below keys p b)
        where
          opened_longer : length keys.counts < length (open_key_orbit compare_pair edge_via rows keys p).counts
          opened_longer =
              omega (
                arith,
                length-append keys.counts (length (fresh compare_pair (map (λ (h : Pair × ℕ). h.0) keys.held)
                    (map (λ (row : Row). edge_via (image row) p) rows)) ∷ []),
              )

  ends_below : (keys : KnownKeys Pair) (ends : List Pair) → HeldNumbered keys
      → ((v : ℕ) → Mem v (map_with (number_ends rows) keys ends).0
      → v < length (map_with (number_ends rows) keys ends).1.counts)
      × HeldNumbered (map_with (number_ends rows) keys ends).1
  unfolding map_with
  ends_below keys [] b = (λ v m. elim m [ ], b)
  ends_below keys (e ∷ ends) b =
      let one = number_below keys e b in
      let rest = ends_below (number_ends rows keys e).1 ends one.1 in
      ((λ v m. member v m one.0 rest.0), rest.1)
    where
      next : KnownKeys Pair
      next = (number_ends rows keys e).1

      member : (v : ℕ) → Mem v ((number_ends rows keys e).0 ∷ (map_with (number_ends rows) next ends).0)
          → (number_ends rows keys e).0 < length next.counts
          → ((v : ℕ) → Mem v (map_with (number_ends rows) next ends).0
          → v < length (map_with (number_ends rows) next ends).1.counts)
          → v < length (map_with (number_ends rows) next ends).1.counts
      member v (Memᴰ.head q) a r = omega (arith, counts_up (number_ends rows) (number_up rows) next ends)
      member v (Memᴰ.tail m) a r = r v m

  lists_up : (keys : KnownKeys Pair) (ends : List Pair)
      → length keys.counts ≤ length (map_with (number_ends rows) keys ends).1.counts
  lists_up keys ends = counts_up (number_ends rows) (number_up rows) keys ends

  lists_below : (keys : KnownKeys Pair) (lists : List (List Pair)) → HeldNumbered keys
      → (l : List ℕ) → Mem l (map_with (map_with (number_ends rows)) keys lists).0 → (v : ℕ) → Mem v l
      → v < length (map_with (map_with (number_ends rows)) keys lists).1.counts
  unfolding map_with
  lists_below keys [] b l m v i = elim m [ ]
  lists_below keys (ends ∷ lists) b l (Memᴰ.head q) v i =
      let one = ends_below keys ends b in
      omega (
        arith,
        one.0 v (subst (λ (z : List ℕ). Mem v z) q i),
        counts_up (map_with (number_ends rows)) lists_up (map_with (number_ends rows) keys ends).1 lists,
      )
  lists_below keys (ends ∷ lists) b l (Memᴰ.tail m) v i =
      lists_below (map_with (number_ends rows) keys ends).1 lists (ends_below keys ends b).1 l m v i

  none_below : HeldNumbered (no_keys Pair)
  unfolding no_keys key_held_by
  none_below = record { held = λ p number e. absurd (none_is_not_some number e) }

  pub numbers_below : (kept : List Kept) (l : List ℕ) → Mem l (numbers_kept rows kept).0 → (v : ℕ) → Mem v l
      → v < length (numbers_kept rows kept).1.counts
  unfolding numbers_kept
  numbers_below kept = lists_below (no_keys Pair) (map (λ (k : Kept). k.ends) kept) none_below

  pub numbers_long : (kept : List Kept) → length (numbers_kept rows kept).0 ≡ length kept
  unfolding numbers_kept
  numbers_long kept =
      with_length (map_with (number_ends rows)) (no_keys Pair) (map (λ (k : Kept). k.ends) kept)
      ∙ length-map kept (λ (k : Kept). k.ends)

  -- one number for each ridge
  each_long : (keys : KnownKeys Pair) (lists : List (List Pair)) (o : ℕ)
      → length (get_or (map_with (map_with (number_ends rows)) keys lists).0 o []) ≡ length (get_or lists o [])
  unfolding map_with
  each_long keys [] o = refl
  each_long keys (ends ∷ lists) zero = with_length (number_ends rows) keys ends
  each_long keys (ends ∷ lists) (suc o) = each_long (map_with (number_ends rows) keys ends).1 lists o

  pub numbers_each : (kept : List Kept) (o : ℕ)
      → length (get_or (numbers_kept rows kept).0 o []) ≡ length (get_or (map (λ (k : Kept). k.ends) kept) o [])
  unfolding numbers_kept
  numbers_each kept o = each_long (no_keys Pair) (map (λ (k : Kept). k.ends) kept) o
