-- Facets by their numbers: the facet with a number, and what stands at that number in lists over all facets. Over any
-- lists. Leans on the definition of the search's facets.
use Rattle.std.specs.Prelude.{◌≡◌, ℕ, zero, suc, ◌+◌, ◌-◌, ◌≤◌, ◌<◌, get_or}
use Rattle.std.proofs.Math.Path.{refl}
use Rattle.std.proofs.Common.{ap, ◌∙◌, arith}
use mathlib.Core.List.{List, [], ◌∷◌, ◌++◌, map, flat_map, zip_with}
use Rattle.std.proofs.Math.Logic.{⊎_elim}
use Rattle.std.proofs.Math.ListN.{length, length-append, length-map, get_or-append}
use Rattle.definitions.specs.Lists.{map_at, count_from}
use Rattle.definitions.specs.Search.{Facet, Table, all_facets}
use Rattle.laws.specs.Lists.{Mem, here, there, map_at_holds, count_at, count_length}
use Rattle.laws.specs.Segments.{le_or_lt}
use Rattle.shapes.specs.Kept.{Kept}
use Rattle.layout.specs.Keeps.{facets_of, facets_in}

-- ---- an item by its place, without another in its stead

pub record At {A : Type 0} (l : List A) (o : ℕ) : Type 0 where
  pub item : A
  pub member : Mem item l
  pub is : (d : A) → get_or l o d ≡ item

pub item_at_holds : {A : Type 0} (l : List A) (o : ℕ) → o < length l → At l o
item_at_holds [] o h = absurd (omega arith)
item_at_holds (x ∷ l) zero h = record { item = x; member = here refl; is = λ d. refl }
item_at_holds (x ∷ l) (suc o) h =
    let r = item_at_holds l o (omega arith) in
    record { item = r.item; member = there r.member; is = r.is }

pub at_map : {A B : Type 0} (f : A → B) (l : List A) (o : ℕ) (h : o < length l) (r : At l o) (d : B)
    → get_or (map f l) o d ≡ f r.item
at_map f l o h r d = map_at_holds f l o d r.item h ∙ ap f (r.is r.item)

pub zip_at : {A B C : Type 0} (f : A → B → C) (l : List A) (m : List B) (o : ℕ) → o < length l → o < length m
    → (a : A) (b : B) (d : C) → get_or (zip_with f l m) o d ≡ f (get_or l o a) (get_or m o b)
unfolding zip_with
zip_at f [] m o h k a b d = absurd (omega arith)
zip_at f (x ∷ l) [] o h k a b d = absurd (omega arith)
zip_at f (x ∷ l) (y ∷ m) zero h k a b d = refl
zip_at f (x ∷ l) (y ∷ m) (suc o) h k a b d = zip_at f l m o (omega arith) (omega arith) a b d

pub zip_long : {A B C : Type 0} (f : A → B → C) (l : List A) (m : List B) → length l ≡ length m
    → length (zip_with f l m) ≡ length l
unfolding zip_with
zip_long f [] m e = refl
zip_long f (x ∷ l) [] e = absurd (omega arith)
zip_long f (x ∷ l) (y ∷ m) e = ap suc (zip_long f l m (omega arith))

-- ---- facets from the number of each orbit's

unfoldable pub facets_from : ℕ → List ℕ → List Facet
facets_from a [] = []
facets_from a (n ∷ ns) = map (λ (f : ℕ). (a, f)) (count_from 0 n) ++ facets_from (suc a) ns

facets_by : {A : Type 0} (many : A → ℕ) (a : ℕ) (l : List A) → flat_map (λ (fs : List Facet). fs)
    (map_at (λ orbit (x : A). map (λ (f : ℕ). (orbit, f)) (count_from 0 (many x))) a l) ≡ facets_from a (map many l)
unfolding facets_from map_at flat_map
facets_by many a [] = refl
facets_by many a (x ∷ l) =
    ap (λ (r : List Facet). map (λ (f : ℕ). (a, f)) (count_from 0 (many x)) ++ r) (facets_by many (suc a) l)

pub table_facets : (t : Table) → all_facets t ≡ facets_from 0 (map length t.shares)
unfolding all_facets
table_facets t = facets_by length 0 t.shares

pub kept_facets : (kept : List Kept) → facets_of kept ≡ facets_from 0 (map facets_in kept)
unfolding facets_of
kept_facets kept = facets_by facets_in 0 kept

-- ---- the facet with a number

-- facet x of lists with one list for each orbit, the first being orbit a
pub record Stand {A : Type 0} (a : ℕ) (lists : List (List A)) (x : ℕ) : Type 0 where
  pub orbit : ℕ
  pub number : ℕ
  pub facet_is : get_or (facets_from a (map length lists)) x (0, 0) ≡ (a + orbit, number)
  pub orbit_few : orbit < length lists
  pub number_few : (d : List A) → number < length (get_or lists orbit d)
  pub item_is : (d : List A) (e : A)
      → get_or (flat_map (λ (l : List A). l) lists) x e ≡ get_or (get_or lists orbit d) number e

drop_front : {B : Type 0} (l m : List B) (x : ℕ) (d : B) → length l ≤ x
    → get_or (l ++ m) x d ≡ get_or m (x - length l) d
drop_front [] m x d h = ap (λ (k : ℕ). get_or m k d) (omega arith)
drop_front (y ∷ l) m zero d h = absurd (omega arith)
drop_front (y ∷ l) m (suc x) d h = drop_front l m x d (omega arith) ∙ ap (λ (k : ℕ). get_or m k d) (omega arith)

module _ {A : Type 0} where
  pub facets_long : (a : ℕ) (lists : List (List A))
      → length (facets_from a (map length lists)) ≡ length (flat_map (λ (l : List A). l) lists)
  unfolding facets_from flat_map
  facets_long a [] = refl
  facets_long a (l ∷ lists) =
      let front : List Facet = map (λ (f : ℕ). (a, f)) (count_from 0 (length l)) in
      let h : length front ≡ length l = length-map {B = Facet} (count_from 0 (length l)) (λ (f : ℕ). (a, f))
      ∙ count_length 0 (length l) in
      length-append front (facets_from (suc a) (map length lists))
      ∙ (omega (arith, facets_long (suc a) lists, length-append l (flat_map (λ (l : List A). l) lists)))

  pub stand : (a : ℕ) (lists : List (List A)) (x : ℕ) → x < length (flat_map (λ (l : List A). l) lists)
      → Stand a lists x
  unfolding facets_from flat_map
  stand a [] x h = absurd (omega arith)
  stand a (l ∷ lists) x h = ⊎_elim
      (λ k. later k (stand (suc a) lists (x - length l) (let n =
      length-append l (flat_map (λ (l : List A). l) lists) in omega arith)))
      (λ k. first k) (le_or_lt (length l) x)
    where
      front : List Facet
      front = map (λ (f : ℕ). (a, f)) (count_from 0 (length l))

      front_long : length front ≡ length l
      front_long = length-map {B = Facet} (count_from 0 (length l)) (λ (f : ℕ). (a, f)) ∙ count_length 0 (length l)

      first : x < length l → Stand a (l ∷ lists) x
      first k = record {
        orbit = 0;
        number = x;
        facet_is =
            get_or-append front (facets_from (suc a) (map length lists)) (0, 0) x (omega (arith, front_long))
            ∙ (map_at_holds (λ (f : ℕ). (a, f)) (count_from 0 (length l)) x (0, 0) 0
            (omega (arith, count_length 0 (length l)))
            ∙ (let e : get_or (count_from 0 (length l)) x 0 ≡ x = count_at 0 (length l) x 0 k ∙ omega arith in
            let z : a ≡ a + 0 = omega arith in λ t. (z t, e t)));
        orbit_few = omega arith;
        number_few = λ d. k;
        item_is = λ d e. get_or-append l (flat_map (λ (l : List A). l) lists) e x k;
      }

      later : length l ≤ x → Stand (suc a) lists (x - length l) → Stand a (l ∷ lists) x
      later k r = record {
        orbit = suc r.orbit;
        number = r.number;
        facet_is =
            drop_front front (facets_from (suc a) (map length lists)) x (0, 0) (omega (arith, front_long))
            ∙ (ap (λ (j : ℕ). get_or (facets_from (suc a) (map length lists)) j (0, 0)) (omega (arith, front_long))
            ∙ (r.facet_is ∙ (let z : suc a + r.orbit ≡ a + suc r.orbit = omega arith in λ t. (z t, r.number))));
        orbit_few = omega (arith, r.orbit_few);
        number_few = λ d. r.number_few d;
        item_is = λ d e. drop_front l (flat_map (λ (l : List A). l) lists) x e k ∙ r.item_is d e;
      }
