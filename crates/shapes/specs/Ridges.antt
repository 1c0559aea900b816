-- Ridge orbits numbered by keys instead of figures: at rank 3 a ridge is a vertex, at rank 4 a pair of ends.
-- Numbering by keys is carried by every map of keys that keeps those of a call apart and goes along with the call's
-- own moves: the numbers and the counts, and so the table that a call searches, stay the same. Figures are keys too,
-- so it is the same for figures that are written from keys. Over any rows. Leans on Edges and Polygons.
use Rattle.std.specs.Prelude.{◌≡◌, ◌⊎◌, Bool}
use Rattle.std.proofs.Math.Path.{refl, sym, ap}
use Rattle.std.proofs.Common.{◌∙◌, subst, inl, inr, arith}
use Rattle.std.proofs.Math.Bool.{cond}
use Rattle.std.specs.Prelude.{Option, Some, None}
use mathlib.Core.List.{List, [], ◌∷◌, ◌++◌, map, zip_with, map-map, map-append}
use Prim.Native.Nat.{ℕ, min, max, compare, Ordering}
use Rattle.std.proofs.Math.Dec.{compare_is_eq}
use Rattle.std.proofs.Math.ListN.{length, get_or, length-map}
use Rattle.definitions.specs.Lists.{Pair, compare_pair, fresh, map_with}
use Rattle.definitions.specs.Orbits.{Row, image}
use Rattle.definitions.specs.Figures.{Figure, compare_figures}
use Rattle.definitions.specs.Search.{Table}
use Rattle.definitions.specs.Recursion.{Inner, Held, RidgeOrbits, no_ridges, held_by, vertex_ridge, move_sorted}
use Rattle.definitions.specs.Recursion.{open_ridge_orbit, number_or_open, number_ridge, number_ridges, facet_shares}
use Rattle.definitions.specs.Recursion.{table_of}
use Rattle.laws.specs.Lists.{Mem, here, there, in_append, of_map}
use Rattle.laws.specs.Orders.{Linear, nats, pairs}
use Rattle.laws.specs.Ascending.{of_fresh}
use Rattle.laws.specs.Places.{fresh_map, same_equal_test, map_same, map_self}
use Rattle.shapes.specs.Edges.{figures, vertex_moved, edge_figure, edge_moved}
use Rattle.shapes.specs.Polygons.{edge_via}

-- ---- numbering by keys

-- the keys held so far, each with its ridge orbit's number, and each ridge orbit's count
pub record KnownKeys (K : Type 0) : Type 0 where
  pub held : List (K × ℕ)
  pub counts : List ℕ

unfoldable pub no_keys : (K : Type 0) → KnownKeys K
no_keys K = record { held = []; counts = [] }

-- a key compares by c, and a map of points sends it
module _ {K : Type 0} (c : K → K → Ordering) (send : (ℕ → ℕ) → K → K) where
  unfoldable pub key_held_by : K → List (K × ℕ) → Option ℕ
  key_held_by k [] = None
  key_held_by k (h ∷ hs) = let later = key_held_by k hs in cond (compare_is_eq (c k h.0)) (Some h.1) later

  unfoldable pub open_key_orbit : List Row → KnownKeys K → K → KnownKeys K
  open_key_orbit rows known k =
      let number = length known.counts in
      let joining = fresh c (map (λ (h : K × ℕ). h.0) known.held) (map (λ (row : Row). send (image row) k) rows) in
      record {
        held = map (λ (x : K). (x, number)) joining ++ known.held;
        counts = known.counts ++ (length joining ∷ []);
      }

  unfoldable pub number_or_open_key : List Row → KnownKeys K → K → Option ℕ → ℕ × KnownKeys K
  number_or_open_key rows known k (Some number) = (number, known)
  number_or_open_key rows known k None = (length known.counts, open_key_orbit rows known k)

  unfoldable pub number_key : List Row → List ℕ → KnownKeys K → K → ℕ × KnownKeys K
  number_key rows vertices known inner =
      let k = send (λ (v : ℕ). get_or vertices v 0) inner in
      number_or_open_key rows known k (key_held_by k known.held)

  unfoldable pub number_keys : List Row → (Inner → List (List K)) → KnownKeys K → List Inner
      → List (List (List ℕ)) × KnownKeys K
  number_keys rows keys =
      map_with (λ known (i : Inner). map_with (map_with (number_key rows i.orbit.vertices)) known (keys i))

  -- the numbers of a call's ridges, and the ridge orbits' counts
  unfoldable pub key_numbers : List Row → (Inner → List (List K)) → List Inner → List (List (List ℕ)) × List ℕ
  key_numbers rows keys inner =
      let numbered = number_keys rows keys (no_keys K) inner in
      (numbered.0, numbered.1.counts)

unfoldable pub ridge_numbers : List Row → List Inner → List (List (List ℕ)) × List ℕ
ridge_numbers rows inner = let numbered = number_ridges rows no_ridges inner in (numbered.0, numbered.1.counts)

-- the table that a call searches is made of them
unfoldable pub numbers_table : List Inner → List (List (List ℕ)) × List ℕ → Table
numbers_table inner numbered = record {
  shares = zip_with (facet_shares numbered.1) inner numbered.0;
  ridges = length numbered.1;
}

pub table_of_numbers : (rows : List Row) (inner : List Inner)
    → table_of rows inner ≡ numbers_table inner (ridge_numbers rows inner)
unfolding table_of numbers_table ridge_numbers
table_of_numbers rows inner = refl

-- ---- a state that stays good, and one that stands for another

module _ {A B S : Type 0} (f : S → A → B × S) (Good : S → Type 0) (Fits : A → Type 0)
    (one : (s : S) (x : A) → Good s → Fits x → Good (f s x).1) where
  pub map_with_good : (s : S) (l : List A) → Good s → ((x : A) → Mem x l → Fits x) → Good (map_with f s l).1
  unfolding map_with
  map_with_good s [] good fits = good
  map_with_good s (x ∷ l) good fits =
      map_with_good (f s x).1 l (one s x good (fits x (here refl))) (λ y m. fits y (there m))

module _ {A A' B S S' : Type 0} (f : S → A → B × S) (g : S' → A' → B × S') (state : S' → S) (item : A' → A)
    (Good : S' → Type 0) (Fits : A' → Type 0)
    (keeps : (s : S') (x : A') → Good s → Fits x → Good (g s x).1)
    (one : (s : S') (x : A') → Good s → Fits x → f (state s) (item x) ≡ ((g s x).0, state (g s x).1)) where
  pub map_with_items : (s : S') (l : List A') → Good s → ((x : A') → Mem x l → Fits x)
      → map_with f (state s) (map item l) ≡ ((map_with g s l).0, state (map_with g s l).1)
  unfolding map_with
  map_with_items s [] good fits = refl
  map_with_items s (x ∷ l) good fits =
      let first = fits x (here refl) in
      ap (λ (r : B × S). (r.0 ∷ (map_with f r.1 (map item l)).0, (map_with f r.1 (map item l)).1)) (one s x good first)
      ∙ ap (λ (r : List B × S). ((g s x).0 ∷ r.0, r.1))
      (map_with_items (g s x).1 l (keeps s x good first) (λ y m. fits y (there m)))

-- a law of one key, for all keys of a call
module _ {K : Type 0} {S : Type 0} (c : K → K → Ordering) (send : (ℕ → ℕ) → K → K) {L : Type 0}
    (number : List ℕ → S → L → ℕ × S) (state : KnownKeys K → S) (write : K → L) (rows : List Row)
    (Good : KnownKeys K → Type 0) (Fits : List ℕ → K → Type 0)
    (keeps : (vertices : List ℕ) (known : KnownKeys K) (k : K) → Good known → Fits vertices k
    → Good (number_key c send rows vertices known k).1)
    (one : (vertices : List ℕ) (known : KnownKeys K) (k : K) → Good known → Fits vertices k
    → number vertices (state known) (write k)
    ≡ ((number_key c send rows vertices known k).0, state (number_key c send rows vertices known k).1)) where
  all_keys : (keys : Inner → List (List K)) (written : Inner → List (List L)) (inner : List Inner)
      → ((i : Inner) → Mem i inner → written i ≡ map (map write) (keys i))
      → ((i : Inner) → Mem i inner → (ks : List K) → Mem ks (keys i) → (k : K) → Mem k ks → Fits i.orbit.vertices k)
      → (s : KnownKeys K) → Good s
      → map_with (λ known (i : Inner). map_with (map_with (number i.orbit.vertices)) known (written i)) (state s) inner
      ≡ ((number_keys c send rows keys s inner).0, state (number_keys c send rows keys s inner).1)
  unfolding number_keys
  all_keys keys written inner h fits s good =
      let each : S → Inner
      → List (List ℕ) × S = λ known i. map_with (map_with (number i.orbit.vertices)) known (written i) in
      ap (map_with each (state s)) (sym (map_self (λ (i : Inner). i) inner (λ i m. refl)))
      ∙ map_with_items each
      (λ known (i : Inner). map_with (map_with (number_key c send rows i.orbit.vertices)) known (keys i)) state
      (λ (i : Inner). i) Good (λ i. Mem i inner)
      (λ t i g m.
      map_with_good (map_with (number_key c send rows i.orbit.vertices)) Good (λ ks. Mem ks (keys i))
      (λ u ks q j. map_with_good (number_key c send rows i.orbit.vertices) Good (Fits i.orbit.vertices)
      (keeps i.orbit.vertices) u ks q (fits i m ks j)) t (keys i) g (λ ks j. j))
      (λ t i g m. at_orbit_holds t i g (h i m) (fits i m)) s inner good (λ i m. m)
    where
      at_orbit_holds : (t : KnownKeys K) (i : Inner) → Good t → written i ≡ map (map write) (keys i)
          → ((ks : List K) → Mem ks (keys i) → (k : K) → Mem k ks → Fits i.orbit.vertices k)
          → map_with (map_with (number i.orbit.vertices)) (state t) (written i)
          ≡ (
            (map_with (map_with (number_key c send rows i.orbit.vertices)) t (keys i)).0,
            state (map_with (map_with (number_key c send rows i.orbit.vertices)) t (keys i)).1,
          )
      at_orbit_holds t i g e fit =
          let vertices = i.orbit.vertices in
          ap (map_with (map_with (number vertices)) (state t)) e
          ∙ map_with_items (map_with (number vertices)) (map_with (number_key c send rows vertices)) state
          (map write) Good (λ ks. Mem ks (keys i))
          (λ u ks q j.
          map_with_good (number_key c send rows vertices) Good (Fits vertices) (keeps vertices) u ks q (fit ks j))
          (λ u ks q j. map_with_items (number vertices) (number_key c send rows vertices) state write Good
          (Fits vertices) (keeps vertices) (one vertices) u ks q (fit ks j)) t (keys i) g (λ ks j. j)

-- ---- keys that stand for keys

-- Keys on so many points, and maps of points to points: different keys stand for different ones, and what a key
-- stands for, moved, is what the sent key stands for. Of other keys and maps nothing is asked.
pub record Carried {K L : Type 0} (c : K → K → Ordering) (send : (ℕ → ℕ) → K → K) (d : L → L → Ordering)
    (move : (ℕ → ℕ) → L → L) (write : K → L) (Key : ℕ → K → Type 0)
    (Moves : ℕ → ℕ → (ℕ → ℕ) → Type 0) : Type 0 where
  pub order : Linear c
  pub target : Linear d
  pub sent : (n m : ℕ) (to : ℕ → ℕ) → Moves n m to → (k : K) → Key n k → Key m (send to k)
  pub apart : (n : ℕ) (k l : K) → Key n k → Key n l → write k ≡ write l → k ≡ l
  pub moved : (n m : ℕ) (to : ℕ → ℕ) → Moves n m to → (k : K) → Key n k → move to (write k) ≡ write (send to k)

-- the keys of a call on n points: its rows move its points, the sets of its orbits move their positions to its
-- points, and the inner keys are on those positions
pub record KeysOf {K : Type 0} (Key : ℕ → K → Type 0) (Moves : ℕ → ℕ → (ℕ → ℕ) → Type 0) (n : ℕ) (rows : List Row)
    (keys : Inner → List (List K)) (inner : List Inner) : Type 0 where
  pub rows_move : (row : Row) → Mem row rows → Moves n n (image row)
  pub sets_move : (i : Inner) → Mem i inner → Moves (length i.orbit.vertices) n (λ (v : ℕ). get_or i.orbit.vertices v 0)
  pub on : (i : Inner) → Mem i inner → (ks : List K) → Mem ks (keys i) → (k : K) → Mem k ks
      → Key (length i.orbit.vertices) k

-- where nothing is asked of keys and maps
abbrev pub AnyKey : {K : Type 0} → ℕ → K → Type 0
AnyKey n k = Unit {0}

abbrev pub AnyMap : ℕ → ℕ → (ℕ → ℕ) → Type 0
AnyMap n m to = Unit {0}

pub any_keys : {K : Type 0} (n : ℕ) (rows : List Row) (keys : Inner → List (List K)) (inner : List Inner)
    → KeysOf AnyKey AnyMap n rows keys inner
any_keys n rows keys inner = record { rows_move = λ row m. tt; sets_move = λ i m. tt; on = λ i m ks j k l. tt }

module _ {K L : Type 0} (c : K → K → Ordering) (send : (ℕ → ℕ) → K → K) (d : L → L → Ordering)
    (move : (ℕ → ℕ) → L → L) (write : K → L) (Key : ℕ → K → Type 0)
    (Moves : ℕ → ℕ → (ℕ → ℕ) → Type 0) (carried : Carried c send d move write Key Moves) where
  abbrev carry_held : K × ℕ → L × ℕ
  carry_held h = (write h.0, h.1)

  -- the keys held, carried
  unfoldable pub carry_known : KnownKeys K → KnownKeys L
  carry_known known = record { held = map carry_held known.held; counts = known.counts }

  module _ (n : ℕ) (rows : List Row) (rows_move : (row : Row) → Mem row rows → Moves n n (image row)) where
    -- every key held is one on n points
    abbrev pub HeldOn : KnownKeys K → Type 0
    HeldOn known = (h : K × ℕ) → Mem h known.held → Key n h.0

    -- a key in a set's positions
    abbrev InSet : List ℕ → K → Type 0
    InSet vertices k = Moves (length vertices) n (λ (v : ℕ). get_or vertices v 0) × Key (length vertices) k

    held_carried : (k : K) → Key n k → (hs : List (K × ℕ)) → ((h : K × ℕ) → Mem h hs → Key n h.0)
        → key_held_by d move (write k) (map carry_held hs) ≡ key_held_by c send k hs
    unfolding key_held_by
    held_carried k is_key [] good = refl
    held_carried k is_key (h ∷ hs) good =
        ap (λ (b : Bool). cond b (Some h.1) (key_held_by d move (write k) (map carry_held hs)))
        (same_equal_test c carried.order d carried.target write k h.0
        (carried.apart n k h.0 is_key (good h (here refl))))
        ∙ ap (λ (o : Option ℕ). cond (compare_is_eq (c k h.0)) (Some h.1) o)
        (held_carried k is_key hs (λ x m. good x (there m)))

    images_on : (k : K) → Key n k → (x : K) → Mem x (map (λ (row : Row). send (image row) k) rows) → Key n x
    images_on k is_key x m =
        let r = of_map (λ (row : Row). send (image row) k) x rows m in
        subst (Key n) (sym r.2) (carried.sent n n (image r.0) (rows_move r.0 r.1) k is_key)

    joining_carried : (hs : List (K × ℕ)) → ((h : K × ℕ) → Mem h hs → Key n h.0) → (k : K) → Key n k
        → fresh d (map (λ (h : L × ℕ). h.0) (map carry_held hs)) (map (λ (row : Row). move (image row) (write k)) rows)
        ≡ map write (fresh c (map (λ (h : K × ℕ). h.0) hs) (map (λ (row : Row). send (image row) k) rows))
    joining_carried hs good k is_key =
        let seen : map (λ (h : L × ℕ). h.0) (map carry_held hs) ≡ map write (map (λ (h : K × ℕ). h.0) hs) =
        map-map (λ (h : L × ℕ). h.0) carry_held hs ∙ sym (map-map write (λ (h : K × ℕ). h.0) hs) in
        let images : map (λ (row : Row). move (image row) (write k)) rows
        ≡ map write (map (λ (row : Row). send (image row) k) rows) =
        map_same (λ (row : Row). move (image row) (write k)) (λ (row : Row). write (send (image row) k)) rows
        (λ row m. carried.moved n n (image row) (rows_move row m) k is_key)
        ∙ sym (map-map write (λ (row : Row). send (image row) k) rows) in
        (λ t. fresh d (seen t) (images t))
        ∙ fresh_map c carried.order d carried.target write (Key n) (carried.apart n) (map (λ (h : K × ℕ). h.0) hs)
        (map (λ (row : Row). send (image row) k) rows)
        (λ x m. let r = of_map (λ (h : K × ℕ). h.0) x hs m in
        subst (Key n) (sym r.2) (good r.0 r.1)) (images_on k is_key)

    open_carried : (known : KnownKeys K) → HeldOn known → (k : K) → Key n k
        → open_key_orbit d move rows (carry_known known) (write k) ≡ carry_known (open_key_orbit c send rows known k)
    unfolding open_key_orbit carry_known
    open_carried known good k is_key =
        let number = length known.counts in
        let joining = fresh c (map (λ (h : K × ℕ). h.0) known.held) (map (λ (row : Row). send (image row) k) rows) in
        let hold : L → L × ℕ = λ r. (r, number) in
        let made : List L → KnownKeys L = λ fs. record {
          held = map hold fs ++ map carry_held known.held;
          counts = known.counts ++ (length fs ∷ []);
        } in
        let front : map hold (map write joining) ≡ map carry_held (map (λ (x : K). (x, number)) joining) =
        map-map hold write joining ∙ sym (map-map carry_held (λ (x : K). (x, number)) joining) in
        let whole : map hold (map write joining) ++ map carry_held known.held
        ≡ map carry_held (map (λ (x : K). (x, number)) joining ++ known.held) =
        ap (λ (l : List (L × ℕ)). l ++ map carry_held known.held) front
        ∙ sym (map-append carry_held (map (λ (x : K). (x, number)) joining) known.held) in
        let many : length (map write joining) ≡ length joining = length-map joining write in
        ap made (joining_carried known.held good k is_key)
        ∙ (λ t. record { held = whole t; counts = known.counts ++ (many t ∷ []) })

    -- and what an opened orbit holds is on n points too
    open_held : (known : KnownKeys K) → HeldOn known → (k : K) → Key n k → HeldOn (open_key_orbit c send rows known k)
    unfolding open_key_orbit
    open_held known good k is_key h m = go (in_append h (map hold joining) known.held m)
      where
        joining : List K
        joining = fresh c (map (λ (x : K × ℕ). x.0) known.held) (map (λ (row : Row). send (image row) k) rows)

        hold : K → K × ℕ
        hold x = (x, length known.counts)

        go : Mem h (map hold joining) ⊎ Mem h known.held → Key n h.0
        go (inl i) =
            let r = of_map hold h joining i in
            subst (λ (x : K × ℕ). Key n x.0) (sym r.2)
            (images_on k is_key r.0 (of_fresh c carried.order (map (λ (x : K × ℕ). x.0) known.held)
            (map (λ (row : Row). send (image row) k) rows) r.0 r.1).0)
        go (inr i) = good h i

    -- a key on n points
    pub number_held : (known : KnownKeys K) (k : K) → HeldOn known → Key n k
        → HeldOn (number_or_open_key c send rows known k (key_held_by c send k known.held)).1
    unfolding number_or_open_key
    number_held known k good is_key = go (key_held_by c send k known.held)
      where
        go : (o : Option ℕ) → HeldOn (number_or_open_key c send rows known k o).1
        go (Some number) = good
        go None = open_held known good k is_key

    pub number_carried : (known : KnownKeys K) (k : K) → HeldOn known → Key n k
        → number_or_open_key d move rows (carry_known known) (write k)
        (key_held_by d move (write k) (carry_known known).held)
        ≡ (
          (number_or_open_key c send rows known k (key_held_by c send k known.held)).0,
          carry_known (number_or_open_key c send rows known k (key_held_by c send k known.held)).1,
        )
    unfolding number_or_open_key carry_known
    number_carried known k good is_key =
        ap (number_or_open_key d move rows (carry_known known) (write k)) (held_carried k is_key known.held good)
        ∙ either (key_held_by c send k known.held)
      where
        either : (o : Option ℕ) → number_or_open_key d move rows (carry_known known) (write k) o
            ≡ ((number_or_open_key c send rows known k o).0, carry_known (number_or_open_key c send rows known k o).1)
        either (Some number) = refl
        either None = ap (λ (r : KnownKeys L). (length known.counts, r)) (open_carried known good k is_key)

    -- and one in a set's positions
    key_held : (vertices : List ℕ) (known : KnownKeys K) (k : K) → HeldOn known → InSet vertices k
        → HeldOn (number_key c send rows vertices known k).1
    unfolding number_key
    key_held vertices known inner good fits =
        let to : ℕ → ℕ = λ v. get_or vertices v 0 in
        number_held known (send to inner) good (carried.sent (length vertices) n to fits.0 inner fits.1)

    key_carried : (vertices : List ℕ) (known : KnownKeys K) (k : K) → HeldOn known → InSet vertices k
        → number_key d move rows vertices (carry_known known) (write k)
        ≡ ((number_key c send rows vertices known k).0, carry_known (number_key c send rows vertices known k).1)
    unfolding number_key
    key_carried vertices known inner good fits =
        let to : ℕ → ℕ = λ v. get_or vertices v 0 in
        ap (λ (r : L).
        number_or_open_key d move rows (carry_known known) r (key_held_by d move r (carry_known known).held))
        (carried.moved (length vertices) n to fits.0 inner fits.1)
        ∙ number_carried known (send to inner) good (carried.sent (length vertices) n to fits.0 inner fits.1)

  -- the numbers and the counts of a call's ridges are those of the keys that stand for them
  pub keys_carried : (n : ℕ) (rows : List Row) (keys : Inner → List (List K)) (written : Inner → List (List L))
      (inner : List Inner) → ((i : Inner) → Mem i inner → written i ≡ map (map write) (keys i))
      → KeysOf Key Moves n rows keys inner
      → number_keys d move rows written (no_keys L) inner ≡ (
        (number_keys c send rows keys (no_keys K) inner).0,
        carry_known (number_keys c send rows keys (no_keys K) inner).1,
      )
  unfolding number_keys no_keys carry_known
  keys_carried n rows keys written inner h of =
      all_keys c send (number_key d move rows) carry_known write rows (HeldOn n rows of.rows_move)
      (InSet n rows of.rows_move) (key_held n rows of.rows_move)
      (key_carried n rows of.rows_move) keys written inner h
      (λ i m ks j k l. (of.sets_move i m, of.on i m ks j k l)) (no_keys K) (λ x m. elim m [ ])

  pub numbers_carried : (n : ℕ) (rows : List Row) (keys : Inner → List (List K)) (written : Inner → List (List L))
      (inner : List Inner) → ((i : Inner) → Mem i inner → written i ≡ map (map write) (keys i))
      → KeysOf Key Moves n rows keys inner → key_numbers d move rows written inner ≡ key_numbers c send rows keys inner
  unfolding key_numbers carry_known
  numbers_carried n rows keys written inner h of =
      ap (λ (x : List (List (List ℕ)) × KnownKeys L). (x.0, x.1.counts)) (keys_carried n rows keys written inner h of)

-- ---- figures are keys

abbrev held_ridge : Figure × ℕ → Held
held_ridge h = record { ridge = h.0; orbit = h.1 }

-- the ridges held, each a key
unfoldable pub held_ridges : KnownKeys Figure → RidgeOrbits
held_ridges known = record { held = map held_ridge known.held; counts = known.counts }

held_ridge_holds : (f : Figure) (hs : List (Figure × ℕ))
    → held_by f (map held_ridge hs) ≡ key_held_by compare_figures move_sorted f hs
unfolding held_by key_held_by
held_ridge_holds f [] = refl
held_ridge_holds f (h ∷ hs) =
    ap (λ (o : Option ℕ). cond (compare_is_eq (compare_figures f h.0)) (Some h.1) o) (held_ridge_holds f hs)

open_ridge : (rows : List Row) (known : KnownKeys Figure) (f : Figure) → open_ridge_orbit rows (held_ridges known) f
    ≡ held_ridges (open_key_orbit compare_figures move_sorted rows known f)
unfolding open_ridge_orbit open_key_orbit held_ridges
open_ridge rows known f =
    let number = length known.counts in
    let images = map (λ (row : Row). move_sorted (image row) f) rows in
    let hold : Figure → Held = λ r. record { ridge = r; orbit = number } in
    let made : List Figure → RidgeOrbits = λ seen. let joining = fresh compare_figures seen images in
    record {
      held = map hold joining ++ map held_ridge known.held;
      counts = known.counts ++ (length joining ∷ []);
    } in
    let joining = fresh compare_figures (map (λ (h : Figure × ℕ). h.0) known.held) images in
    let front : map hold joining ≡ map held_ridge (map (λ (x : Figure). (x, number)) joining) =
    sym (map-map held_ridge (λ (x : Figure). (x, number)) joining) in
    let whole : map hold joining ++ map held_ridge known.held
    ≡ map held_ridge (map (λ (x : Figure). (x, number)) joining ++ known.held) =
    ap (λ (l : List Held). l ++ map held_ridge known.held) front
    ∙ sym (map-append held_ridge (map (λ (x : Figure). (x, number)) joining) known.held) in
    ap made (map-map (λ (h : Held). h.ridge) held_ridge known.held)
    ∙ (λ t. record { held = whole t; counts = known.counts ++ (length joining ∷ []) })

ridge_key : (rows : List Row) (vertices : List ℕ) (known : KnownKeys Figure) (f : Figure)
    → number_ridge rows vertices (held_ridges known) f
    ≡ (
      (number_key compare_figures move_sorted rows vertices known f).0,
      held_ridges (number_key compare_figures move_sorted rows vertices known f).1,
    )
unfolding number_ridge number_key number_or_open number_or_open_key held_ridges
ridge_key rows vertices known inner =
    let f = move_sorted (λ (v : ℕ). get_or vertices v 0) inner in
    ap (number_or_open rows (held_ridges known) f) (held_ridge_holds f known.held)
    ∙ either (key_held_by compare_figures move_sorted f known.held) f
  where
    either : (o : Option ℕ) (f : Figure)
        → number_or_open rows (held_ridges known) f o
        ≡ (
          (number_or_open_key compare_figures move_sorted rows known f o).0,
          held_ridges (number_or_open_key compare_figures move_sorted rows known f o).1,
        )
    either (Some number) f = refl
    either None f = ap (λ (r : RidgeOrbits). (length known.counts, r)) (open_ridge rows known f)

-- a call's ridges are numbered as figures that are keys
pub ridges_are_keys : (rows : List Row) (inner : List Inner)
    → ridge_numbers rows inner ≡ key_numbers compare_figures move_sorted rows (λ (i : Inner). i.answer.possible) inner
unfolding ridge_numbers key_numbers number_ridges no_ridges no_keys held_ridges
ridges_are_keys rows inner =
    ap (λ (x : List (List (List ℕ)) × RidgeOrbits). (x.0, x.1.counts))
    (all_keys compare_figures move_sorted (number_ridge rows) held_ridges (λ (f : Figure). f) rows (λ known. Unit {0})
    (λ vertices f. Unit {0}) (λ vertices known f g h. tt) (λ vertices known f g h. ridge_key rows vertices known f)
    (λ (i : Inner). i.answer.possible) (λ (i : Inner). i.answer.possible) inner
    (λ i m. sym (map_self (map (λ (f : Figure). f)) i.answer.possible
    (λ fs j. map_self (λ (f : Figure). f) fs (λ f k. refl)))) (λ i m fs j f k. tt) (no_keys Figure) tt)

-- ---- figures written from keys

pub numbers_by_keys : {K : Type 0} (c : K → K → Ordering) (send : (ℕ → ℕ) → K → K) (write : K → Figure)
    (Key : ℕ → K → Type 0) (Moves : ℕ → ℕ → (ℕ → ℕ) → Type 0)
    → Carried c send compare_figures move_sorted write Key Moves
    → (n : ℕ) (rows : List Row) (keys : Inner → List (List K)) (inner : List Inner)
    → ((i : Inner) → Mem i inner → i.answer.possible ≡ map (map write) (keys i)) → KeysOf Key Moves n rows keys inner
    → ridge_numbers rows inner ≡ key_numbers c send rows keys inner
numbers_by_keys c send write Key Moves carried n rows keys inner h of =
    ridges_are_keys rows inner
    ∙ numbers_carried c send compare_figures move_sorted write Key Moves carried n rows keys
    (λ (i : Inner). i.answer.possible) inner h of

-- ---- vertices and edges

pub vertices_keyed : Carried compare (λ to v. to v) compare_figures move_sorted vertex_ridge AnyKey AnyMap
unfolding vertex_ridge
vertices_keyed = record {
  order = nats;
  target = figures;
  sent = λ n m to h v k. tt;
  apart = λ n v w j k e. ap (λ (f : Figure). get_or (get_or (get_or f 2 []) 0 []) 0 0) e;
  moved = λ n m to h v k. vertex_moved to v;
}

pub edges_keyed : Carried compare_pair edge_via compare_figures move_sorted edge_figure AnyKey AnyMap
unfolding edge_figure edge_via
edges_keyed = record {
  order = pairs;
  target = figures;
  sent = λ n m to h e k. tt;
  apart =
      λ n d e j k q. let a = ap (λ (f : Figure). get_or (get_or (get_or f 2 []) 0 []) 0 0) q in
      let b = ap (λ (f : Figure). get_or (get_or (get_or f 2 []) 0 []) 1 0) q in λ t. (a t, b t);
  moved = λ n m to h e k. edge_moved to e;
}

-- a vertex as a pair of ends
unfoldable pub twice : ℕ → Pair
twice v = (v, v)

-- sent, it is sent twice
pub twice_moved : (to : ℕ → ℕ) (v : ℕ) → edge_via to (twice v) ≡ twice (to v)
unfolding twice edge_via
twice_moved to v =
    let low : min (to v) (to v) ≡ to v = omega arith in
    let high : max (to v) (to v) ≡ to v = omega arith in
    λ t. (low t, high t)

pub vertices_twice : Carried compare (λ to v. to v) compare_pair edge_via twice AnyKey AnyMap
unfolding twice
vertices_twice = record {
  order = nats;
  target = pairs;
  sent = λ n m to h v k. tt;
  apart = λ n v w j k e. ap (λ (p : Pair). p.0) e;
  moved = λ n m to h v k. twice_moved to v;
}
