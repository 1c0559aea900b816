-- What the loops over an inner call's answer read and push: steps of lists, marks and codes. Leans on Marked and
-- Polygons.
use Rattle.std.specs.Prelude.{◌≡◌, Bool, true, false, cond, get_or, set, take, drop, replicate}
use Rattle.std.proofs.Math.Path.{refl, sym, ap, subst}
use Rattle.std.proofs.Common.{◌∙◌, ⊎_elim, length-drop, take_all}
use mathlib.Core.List.{List, [], ◌∷◌, ◌++◌, map, flat_map, append-nil, map-append, map-map}
use Prim.Native.Nat.{ℕ, zero, suc, ◌+◌, ◌*◌, ◌-◌, ◌/◌, ◌%◌, ◌≤◌, ◌<◌}
use native.Mathlib.Omega.{arith}
use Rattle.std.proofs.Math.ListN.{length, length-append, length-map, get_or-append}
use Rattle.std.proofs.Math.Seq.{get_or-append_seam}
use Rattle.definitions.specs.Lists.{Pair, keep, count_from}
use Rattle.definitions.specs.Job.{number_at}
use Rattle.definitions.specs.Orbits.{Row, Orbit, pair_image}
use Rattle.laws.specs.Lists.{Mem, of_map, of_flat_map, map_at_holds, member_at, count_length}
use Rattle.laws.specs.Lists.{flat_map_append}
use Rattle.laws.specs.Segments.{le_or_lt}
use Rattle.laws.specs.Parts.{rows, take_more}
use Rattle.rows.specs.Rows.{rows_in, RowsFit, ImagesBelow}
use Rattle.order.specs.Areas.{lists_length}
use Rattle.order.specs.Numbers.{AllBelow}
use Rattle.rows.specs.Marks.{marked}
use Rattle.rows.specs.Codes.{pair_code, pair_codes, row_below}
use Rattle.orbits.specs.Numbers.{orbit_of}
use Rattle.orbits.specs.Workspace.{orbits_in, orbits_length}
use Rattle.shapes.specs.Kept.{Kept}
use Rattle.layout.specs.declared.Level.{Level}
use Rattle.layout.specs.Keeps.{Keeps, edges_of}
use Rattle.layout.specs.Leaves.{lists_left}
use Rattle.left_edges.specs.Marked.{marked_codes, codes_wide}
use Rattle.left_edges.specs.Polygons.{edge_in, edge_at, images_of, OneEdge, EdgesLeft, edge_proper, edge_list}
use Rattle.left_edges.specs.Polygons.{edges_listed, facets_many, no_kept}

-- a part lent to the end
pub lent_tail : (at : ℕ) (s : List ℕ) → take (length s - at) (drop at s) ≡ drop at s
lent_tail at s = let n = length-drop at s in take_all (length s - at) (drop at s) (omega arith)

-- ---- marks

pub marked_append : (marks : List Bool) (xs ys : List ℕ) → marked marks (xs ++ ys) ≡ marked (marked marks xs) ys
unfolding marked
marked_append marks [] ys = refl
marked_append marks (x ∷ xs) ys = marked_append (set marks x true) xs ys

pub images_none : (rows : List Row) (inner : List Kept) (marks : List Bool) (l : List ℕ) → marks
    ≡ marked marks (map pair_code (images_of rows inner (take 0 l)))
unfolding images_of marked flat_map
images_none rows inner marks l = refl

-- one facet more of a list
pub images_more : (rows : List Row) (inner : List Kept) (marks : List Bool) (l : List ℕ) (i x : ℕ) → i < length l → x
    ≡ get_or l i 0
    → marked marks (map pair_code (images_of rows inner (take (i + 1) l)))
    ≡ marked (marked marks (map pair_code (images_of rows inner (take i l))))
    (map pair_code (map (pair_image (edge_at inner x)) rows))
unfolding images_of flat_map
images_more rows inner marks l i x h e =
    let send : ℕ → List Pair = λ (y : ℕ). map (pair_image (edge_at inner y)) rows in
    let more : flat_map send (take (i + 1) l) ≡ flat_map send (take i l) ++ send x =
    ap (flat_map send) (take_more l i 0 h ∙ ap (λ (y : ℕ). take i l ++ (y ∷ [])) (sym e))
    ∙ (flat_map_append send (take i l) (x ∷ [])
    ∙ ap (λ (m : List Pair). flat_map send (take i l) ++ m) (append-nil (send x))) in
    ap (λ (m : List Pair). marked marks (map pair_code m)) more
    ∙ (ap (marked marks) (map-append pair_code (flat_map send (take i l)) (send x))
    ∙ marked_append marks (map pair_code (flat_map send (take i l))) (map pair_code (send x)))

-- the first of the facets that are left: its images are marked, and the others are left
pub images_first : (rows : List Row) (inner : List Kept) (marks : List Bool) (x : ℕ)
    (xs : List ℕ) {new : List Bool} {l : List ℕ}
    → new ≡ marked marks (map pair_code (map (pair_image (edge_at inner x)) rows)) → l ≡ x ∷ xs
    → marked new (map pair_code (images_of rows inner xs)) ≡ marked marks (map pair_code (images_of rows inner l))
unfolding images_of flat_map
images_first rows inner marks x xs e s =
    let send : ℕ → List Pair = λ (y : ℕ). map (pair_image (edge_at inner y)) rows in
    ap (λ (m : List Bool). marked m (map pair_code (flat_map send xs))) e
    ∙ (sym (marked_append marks (map pair_code (send x)) (map pair_code (flat_map send xs)))
    ∙ (ap (marked marks) (sym (map-append pair_code (send x) (flat_map send xs)))
    ∙ ap (λ (l : List ℕ). marked marks (map pair_code (flat_map send l))) (sym s)))

-- none is left
pub images_end : (rows : List Row) (inner : List Kept) (marks : List Bool) {l : List ℕ} → l ≡ []
    → marks ≡ marked marks (map pair_code (images_of rows inner l))
unfolding images_of marked flat_map
images_end rows inner marks e = ap (λ (l : List ℕ). marked marks (map pair_code (images_of rows inner l))) (sym e)

-- ---- codes moved to a call's vertices

-- the code of a pair of positions, as the vertices at them
abbrev pub moved_code : List ℕ → ℕ → ℕ
moved_code vertices c = 20 * get_or vertices (c / 20) 0 + get_or vertices (c % 20) 0

-- the vertex at a position is one of 20, where 0 stands behind the last; and both of a pair with a code
abbrev pub HasVertex : List ℕ → ℕ → Type 0
HasVertex vertices p = get_or vertices p 0 < 20

abbrev pub PairHasVertices : List ℕ → ℕ → Type 0
PairHasVertices vertices c = HasVertex vertices (c / 20) × HasVertex vertices (c % 20)

abbrev pub Test : List Bool → ℕ → Bool
Test marks c = get_or marks c false

-- the marked codes below c, moved
unfoldable pub moved_below : List ℕ → List Bool → ℕ → List ℕ
moved_below vertices marks c = map (moved_code vertices) (keep (Test marks) (count_from 0 c))

keep_append : (p : ℕ → Bool) (l m : List ℕ) → keep p (l ++ m) ≡ keep p l ++ keep p m
unfolding keep
keep_append p [] m = refl
keep_append p (x ∷ l) m = ap (λ (r : List ℕ). cond (p x) (x ∷ r) r) (keep_append p l m) ∙ go (p x)
  where
    go : (b : Bool)
        → cond b (x ∷ (keep p l ++ keep p m)) (keep p l ++ keep p m) ≡ cond b (x ∷ keep p l) (keep p l) ++ keep p m
    go true = refl
    go false = refl

pub count_append : (a m n : ℕ) → count_from a (m + n) ≡ count_from a m ++ count_from (a + m) n
unfolding count_from
count_append a zero n =
    let e : 0 + n ≡ n = omega arith in
    let z : a ≡ a + 0 = omega arith in
    ap (count_from a) e ∙ ap (λ (k : ℕ). count_from k n) z
count_append a (suc m) n =
    let e : suc m + n ≡ suc (m + n) = omega arith in
    let z : suc a + m ≡ a + suc m = omega arith in
    ap (count_from a) e
    ∙ ap (λ (l : List ℕ). a ∷ l) (count_append (suc a) m n ∙ ap (λ (k : ℕ). count_from (suc a) m ++ count_from k n) z)

one_kept : (p : ℕ → Bool) (c n : ℕ) → p c ≡ true → keep p (count_from c (suc n)) ≡ c ∷ keep p (count_from (suc c) n)
unfolding keep count_from
one_kept p c n e = rw e refl

one_left : (p : ℕ → Bool) (c n : ℕ) → p c ≡ false → keep p (count_from c (suc n)) ≡ keep p (count_from (suc c) n)
unfolding keep count_from
one_left p c n e = rw e refl

none_kept : (p : ℕ → Bool) (c : ℕ) → keep p (count_from c 0) ≡ []
unfolding keep count_from
none_kept p c = refl

module _ (vertices : List ℕ) (marks : List Bool) where
  pub below_none : moved_below vertices marks 0 ≡ []
  unfolding moved_below keep count_from
  below_none = refl

  pub below_all : moved_below vertices marks 400 ≡ map (moved_code vertices) (marked_codes marks)
  unfolding moved_below marked_codes
  below_all = refl

  up_to : (c n : ℕ) → keep (Test marks) (count_from 0 (c + n))
      ≡ keep (Test marks) (count_from 0 c) ++ keep (Test marks) (count_from c n)
  up_to c n =
      let z : 0 + c ≡ c = omega arith in
      ap (keep (Test marks)) (count_append 0 c n ∙ ap (λ (k : ℕ). count_from 0 c ++ count_from k n) z)
      ∙ keep_append (Test marks) (count_from 0 c) (count_from c n)

  pub below_marked : (c : ℕ) → get_or marks c false ≡ true
      → moved_below vertices marks (c + 1) ≡ moved_below vertices marks c ++ (moved_code vertices c ∷ [])
  unfolding moved_below
  below_marked c e =
      ap (map (moved_code vertices)) (up_to c 1 ∙ ap (λ (l : List ℕ). keep (Test marks) (count_from 0 c) ++ l)
      (one_kept (Test marks) c 0 e ∙ ap (λ (l : List ℕ). c ∷ l) (none_kept (Test marks) (suc c))))
      ∙ map-append (moved_code vertices) (keep (Test marks) (count_from 0 c)) (c ∷ [])

  pub below_left : (c : ℕ) → get_or marks c false ≡ false
      → moved_below vertices marks (c + 1) ≡ moved_below vertices marks c
  unfolding moved_below
  below_left c e =
      ap (map (moved_code vertices))
      (up_to c 1 ∙ (ap (λ (l : List ℕ). keep (Test marks) (count_from 0 c) ++ l) (one_left (Test marks) c 0 e
      ∙ none_kept (Test marks) (suc c)) ∙ append-nil (keep (Test marks) (count_from 0 c))))

  -- a marked code is one of all
  pub below_room : (c : ℕ) → c < 400 → get_or marks c false ≡ true
      → length (moved_below vertices marks c) < length (marked_codes marks)
  unfolding moved_below marked_codes
  below_room c h e =
      let z : c + suc (400 - suc c) ≡ 400 = omega arith in
      let a = ap (λ (k : ℕ). length (keep (Test marks) (count_from 0 k))) z in
      let b = ap length (up_to c (suc (400 - suc c))
      ∙ ap (λ (l : List ℕ). keep (Test marks) (count_from 0 c) ++ l) (one_kept (Test marks) c (400 - suc c) e)) in
      let l =
      length-append (keep (Test marks) (count_from 0 c)) (c ∷ keep (Test marks) (count_from (suc c) (400 - suc c))) in
      let m = length-map (keep (Test marks) (count_from 0 c)) (moved_code vertices) in
      omega arith

-- ---- an entry's edges are the marked codes, moved

-- an image of an edge of n points has its ends among them
pub images_below : (n m : ℕ) (s : List ℕ) (inner : List Kept) (numbers : List ℕ) → RowsFit n m s
    → ((k : Kept) → Mem k inner → OneEdge n k) → ((x : ℕ) → Mem x numbers → x < length inner)
    → (e : Pair) → Mem e (images_of (rows_in n m s) inner numbers) → (e.0 < n) × (e.1 < n)
unfolding images_of pair_image
images_below n m s inner numbers fits each b e i =
    let r = of_flat_map (λ (x : ℕ). map (pair_image (edge_at inner x)) (rows_in n m s)) e numbers i in
    let q = of_map (pair_image (edge_at inner r.0)) e (rows_in n m s) r.2 in
    let p = edge_proper n inner each r.0 (b r.0 r.1) in
    let rises = p.rises in
    let below = p.below in
    let v = row_below fits q.0 q.1 (edge_at inner r.0).0 (omega arith) in
    let w = row_below fits q.0 q.1 (edge_at inner r.0).1 below in
    let first = ap (λ (d : Pair). d.0) q.2 in
    let second = ap (λ (d : Pair). d.1) q.2 in
    (omega arith, omega arith)

-- how many edges an entry has at most
few_kept : (p : ℕ → Bool) (l : List ℕ) → length (keep p l) ≤ length l
unfolding keep
few_kept p [] = omega arith
few_kept p (x ∷ l) = go (p x) (few_kept p l)
  where
    go : (b : Bool) → length (keep p l) ≤ length l → length (cond b (x ∷ keep p l) (keep p l)) ≤ suc (length l)
    go true h = omega arith
    go false h = omega arith

pub few_marked : (marks : List Bool) → length (marked_codes marks) ≤ 400
unfolding marked_codes
few_marked marks = let n = count_length 0 400 in omega (arith, few_kept (Test marks) (count_from 0 400))

-- the marks of an entry's images
abbrev pub marks_of : List Row → List Kept → List ℕ → List Bool
marks_of rows inner numbers = marked (replicate 400 false) (map pair_code (images_of rows inner numbers))

-- ---- what a call of rank 3 has left, read

module _ {n m : ℕ} {inner : List Kept} {level : Level} {rows s : List ℕ} (left : EdgesLeft n m inner level rows s) where
  -- its facets are its orbits
  pub orbits_many : level.layout.orbits ≡ length inner
  orbits_many = left.leaves.keeps.orbits

  pub facets_known : level.layout.facets ≡ length inner
  facets_known = left.leaves.keeps.facets ∙ facets_many n inner left.each

  pub lists_below : AllBelow (length inner) (lists_left level s)
  lists_below l i x j = subst (λ (k : ℕ). x < k) facets_known (left.leaves.numbers l i x j)

  pub lists_many : length (lists_left level s) ≡ level.count
  lists_many = lists_length 1024 level.bytes level.count (drop level.lists s)

  pub entry_below : (k : ℕ) → k < level.count → (x : ℕ) → Mem x (get_or (lists_left level s) k []) → x < length inner
  entry_below k h =
      lists_below (get_or (lists_left level s) k []) (member_at (lists_left level s) k [] (omega (arith, lists_many)))

  pub facet_below : (k i : ℕ) → k < level.count → i < length (get_or (lists_left level s) k [])
      → get_or (get_or (lists_left level s) k []) i 0 < length inner
  facet_below k i h j =
      entry_below k h (get_or (get_or (lists_left level s) k []) i 0)
      (member_at (get_or (lists_left level s) k []) i 0 j)

  -- the lists' area lies in the workspace
  pub lists_inside : level.lists ≤ length s
  lists_inside = omega (arith, left.leaves.room)

  module _ (x : ℕ) (h : x < length inner) where
    -- facet x has one edge
    pub edge_known : (x < length (map (map pair_code) (edges_of inner)))
        × (0 < length (get_or (map (map pair_code) (edges_of inner)) x []))
    edge_known = (omega (arith, edges_listed n inner left.each), rw (edge_list n inner left.each x h) (omega arith))

    pub edge_code_holds : (r : ℕ) → r ≡ get_or (get_or (map (map pair_code) (edges_of inner)) x []) 0 0
        → r ≡ pair_code (edge_at inner x)
    edge_code_holds r e = e ∙ ap (λ (l : List ℕ). get_or l 0 0) (edge_list n inner left.each x h)

    edge_ends : ((edge_at inner x).0 < n) × ((edge_at inner x).1 < n) × (n ≤ 20)
    edge_ends =
        let p = edge_proper n inner left.each x h in
        (omega (arith, p.rises, p.below), p.below, left.rows_fit.n_fits)

    -- its code, taken apart
    pub code_apart : (r : ℕ) → r ≡ pair_code (edge_at inner x)
        → (r / 20 ≡ (edge_at inner x).0) × (r % 20 ≡ (edge_at inner x).1) × (r < 400) × (r / 20 < n) × (r % 20 < n)
    unfolding pair_code
    code_apart r e =
        let b = edge_ends in
        let p = b.0 in
        let q = b.1 in
        let f = b.2 in
        let a : r / 20 ≡ (edge_at inner x).0 = omega arith in
        let c : r % 20 ≡ (edge_at inner x).1 = omega arith in
        (a, c, omega arith, omega arith, omega arith)

    -- its images' codes
    pub code_images : (r : ℕ) → r ≡ pair_code (edge_at inner x) → pair_codes (rows_in 32 m rows) (r / 20, r % 20)
        ≡ map pair_code (map (pair_image (edge_at inner x)) (rows_in n m rows))
    code_images r e =
        let a = code_apart r e in
        let same : (r / 20, r % 20) ≡ edge_at inner x = (λ t. (a.0 t, a.1 t)) in
        let b = edge_ends in
        ap (pair_codes (rows_in 32 m rows)) same ∙ codes_wide n m (edge_at inner x) rows b.0 b.1 b.2

-- images of a point below n under the first rows, as the marking asks it
pub images_under : {n m : ℕ} {s : List ℕ} → RowsFit n m s → (v few : ℕ) → v < n → few ≤ m → ImagesBelow 20 v few s
images_under fits v few h k =
    record { below = λ i l. omega (arith, (fits.images v h).below i (omega arith), fits.n_fits) }

-- ---- the ridges

-- each orbit's edge, moved, with its count
unfoldable pub ridges_moved : List ℕ → List Kept → List ℕ
ridges_moved vertices inner =
    map (λ (k : Kept). moved_code vertices (pair_code (edge_in k)) + 65536 * k.orbit.count) inner

orbit_there : (s : List ℕ) (count a : ℕ) → a < count
    → get_or (orbits_in s count) a (0, 0) ≡ (number_at s (8 * a) 4, number_at s (8 * a + 4) 4)
unfolding orbits_in
orbit_there s zero a h = absurd (omega arith)
orbit_there s (suc count) a h =
    let n = orbits_length s count in
    ⊎_elim
    (λ q. get_or-append (orbits_in s count) ((number_at s (8 * count) 4, number_at s (8 * count + 4) 4) ∷ []) (0, 0) a
    (omega arith) ∙ orbit_there s count a q)
    (λ q.
    let z : a ≡ length (orbits_in s count) = omega arith in
    let y : count ≡ a = omega arith in
    ap (λ (o : ℕ).
    get_or (orbits_in s count ++ ((number_at s (8 * count) 4, number_at s (8 * count + 4) 4) ∷ [])) o (0, 0)) z
    ∙ (get_or-append_seam (orbits_in s count) (number_at s (8 * count) 4, number_at s (8 * count + 4) 4) [] (0, 0)
    ∙ ap (λ (o : ℕ). (number_at s (8 * o) 4, number_at s (8 * o + 4) 4)) y))
    (le_or_lt (suc a) count)

module _ {n m : ℕ} {inner : List Kept} {level : Level} {rows s : List ℕ} (left : EdgesLeft n m inner level rows s)
    (a : ℕ) (h : a < length inner) where
  abbrev keeps : Keeps n level.layout inner s
  keeps = left.leaves.keeps

  -- an orbit's count, as it is stored
  counts_same : map (λ (p : Pair). p.1) (orbits_in s level.layout.orbits) ≡ map (λ (k : Kept). k.orbit.count) inner
  unfolding orbit_of
  counts_same =
      sym (map-map (λ (o : Orbit). o.count) (orbit_of n) (orbits_in s level.layout.orbits))
      ∙ (ap (map (λ (o : Orbit). o.count)) keeps.sets ∙ map-map (λ (o : Orbit). o.count) (λ (k : Kept). k.orbit) inner)

  pub count_there : number_at s (8 * a + 4) 4 ≡ get_or (map (λ (k : Kept). k.orbit.count) inner) a 0
  count_there =
      let l = orbits_length s level.layout.orbits in
      let f : a < level.layout.orbits = omega (arith, keeps.orbits) in
      sym (ap (λ (p : Pair). p.1) (orbit_there s level.layout.orbits a f))
      ∙ (sym (map_at_holds (λ (p : Pair). p.1) (orbits_in s level.layout.orbits) a 0 (0, 0) (omega arith))
      ∙ ap (λ (c : List ℕ). get_or c a 0) counts_same)

  pub count_few : number_at s (8 * a + 4) 4 < 65536
  count_few =
      let few = (left.each (get_or inner a no_kept) (member_at inner a no_kept h)).few in
      omega (arith, count_there, map_at_holds (λ (k : Kept). k.orbit.count) inner a 0 no_kept h)

  -- what is pushed is the next of the ridges
  pub ridge_next : (vertices : List ℕ) (code count : ℕ) → code ≡ pair_code (edge_at inner a)
      → count ≡ number_at s (8 * a + 4) 4
      → moved_code vertices code + 65536 * count ≡ get_or (ridges_moved vertices inner) a 0
  unfolding ridges_moved edge_at
  ridge_next vertices code count e f =
      let p : code ≡ pair_code (edge_in (get_or inner a no_kept)) = e
      ∙ ap pair_code (map_at_holds edge_in inner a (0, 0) no_kept h) in
      let q : count ≡ (get_or inner a no_kept).orbit.count = f
      ∙ (count_there ∙ map_at_holds (λ (k : Kept). k.orbit.count) inner a 0 no_kept h) in
      rw (p, q) (sym (map_at_holds (λ (k : Kept). moved_code vertices (pair_code (edge_in k))
      + 65536 * k.orbit.count) inner a 0 no_kept h))

pub ridges_many : (vertices : List ℕ) (inner : List Kept) → length (ridges_moved vertices inner) ≡ length inner
unfolding ridges_moved
ridges_many vertices inner =
    length-map inner (λ (k : Kept). moved_code vertices (pair_code (edge_in k)) + 65536 * k.orbit.count)
