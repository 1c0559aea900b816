-- The tallies that the code keeps are the definition's [17.5], and so are the orbits that it keeps [17.6]. Leans on
-- Counts, and on sets as numbers. Assumes nothing.
use Rattle.std.specs.Prelude.{◌≡◌, Bool, true, false, ◌||◌, leb, eqb, get_or, set}
use Rattle.std.proofs.Math.Path.{refl, sym, ap, subst}
use Rattle.std.proofs.Common.{◌∙◌, arith, eq-eqb, ne_eqb, get_or-set_same, get_or-set_other}
use Rattle.std.proofs.Math.Bool.{cond}
use mathlib.Core.List.{List, [], ◌∷◌, ◌++◌, map, append-nil}
use Rattle.std.specs.Prelude.{Option, Some, None}
use Prim.Native.Nat.{ℕ, zero, suc, ◌+◌, ◌*◌, ◌/◌, ◌≤◌, ◌<◌}
use Rattle.std.proofs.Math.Decide.{ℕ_discrete}
use Rattle.std.proofs.Math.ListN.{length, length-append, get_or-append}
use Rattle.std.proofs.lemmas.List.{get_or_at}
use Rattle.definitions.specs.Lists.{Pair, any_of, member_nat, keep, map_at}
use Rattle.definitions.specs.Orbits.{Row, Orbit, image, set_image}
use Rattle.definitions.specs.Job.{same_nats}
use Rattle.definitions.specs.Noble.{Package, key_of, key_images, Mark, Tally, Tallies, mark_of, portion, open_tally}
use Rattle.definitions.specs.Noble.{add_portion, add_to_tally, tally_by, tally_orbit, tally_orbits, sum_at, keeps_orbit}
use Rattle.definitions.specs.Noble.{kept_by}
use Rattle.laws.specs.Lists.{Mem, here, there, of_map}
use Rattle.laws.specs.Sets.{set_number, vertices_of, SetFrom, vertices_number, compare_sets, image_set}
use Rattle.sorted.specs.Ascending.{ascending_nil}
use Rattle.sorted.specs.Gathering.{added}
use Rattle.orbits.specs.Numbers.{image_numbers, orbit_of}
use Rattle.orbits.specs.Hyperplanes.{Permutes, SeenAs, Joined, joined}
use Rattle.tallies.specs.Marks.{latest, latest_none, latest_new}
use Rattle.tallies.specs.Counts.{Counted, count_by, count_one, count_all, pair_key, none_counted, sum_by, keeps_pair}
use Rattle.tallies.specs.Counts.{keep_pairs, most_weight, CountFits, none_fits, one_fits, all_fit, found_opened}

-- a tally with nothing in it
abbrev pub no_tally : Tally
no_tally = record { images = 0; sum = 0 }

abbrev pub no_tallies : Tallies
no_tallies = record { marks = []; tallies = [] }

-- the same tallies, and for every key the same mark
pub record Agrees (p : Package) (c : Counted) (t : Tallies) : Type 0 where
  pub number : c.tallies ≡ length t.tallies
  pub marks : (key : List ℕ) → SetFrom 0 p.size key → latest 256 c.marks (set_number key) ≡ mark_of key t.marks
  pub images : (i : ℕ) → i < c.tallies → get_or c.images i 0 ≡ (get_or t.tallies i no_tally).images
  pub sums : (i : ℕ) → i < c.tallies → get_or c.sums i 0 ≡ (get_or t.tallies i no_tally).sum

pub none_agrees : (p : Package) → Agrees p none_counted no_tallies
unfolding none_counted mark_of member_nat any_of
none_agrees p = record {
  number = refl;
  marks = λ key s. latest_none 256 [] (set_number key) (λ k h. refl);
  images = λ i h. absurd (omega arith);
  sums = λ i h. absurd (omega arith);
}

-- ---- lists

map_at_at : {A B : Type 0} (f : ℕ → A → B) (a : ℕ) (l : List A) (i : ℕ) (d : B) (e : A) → i < length l
    → get_or (map_at f a l) i d ≡ f (a + i) (get_or l i e)
unfolding map_at
map_at_at f a [] i d e h = absurd (omega arith)
map_at_at f a (x ∷ l) zero d e h = let z : a ≡ a + 0 = omega arith in ap (λ (k : ℕ). f k x) z
map_at_at f a (x ∷ l) (suc i) d e h =
    let z : suc a + i ≡ a + suc i = omega arith in
    map_at_at f (suc a) l i d e (omega arith) ∙ ap (λ (k : ℕ). f k (get_or l i e)) z

map_at_length : {A B : Type 0} (f : ℕ → A → B) (a : ℕ) (l : List A) → length (map_at f a l) ≡ length l
unfolding map_at
map_at_length f a [] = refl
map_at_length f a (x ∷ l) = ap suc (map_at_length f (suc a) l)

keep_map : {A B : Type 0} (P : B → Bool) (Q : A → Bool) (f : A → B) (l : List A) → ((x : A) → P (f x) ≡ Q x)
    → keep P (map f l) ≡ map f (keep Q l)
unfolding keep
keep_map P Q f [] h = refl
keep_map {A} {B} P Q f (x ∷ l) h = rw (h x) (go (Q x) (keep_map P Q f l h))
  where
    go : (b : Bool) → keep P (map f l) ≡ map f (keep Q l)
        → cond b (f x ∷ keep P (map f l)) (keep P (map f l)) ≡ map f (cond b (x ∷ keep Q l) (keep Q l))
    go true e = ap (λ (r : List B). f x ∷ r) e
    go false e = e

-- ---- marks

-- the latest mark, where some keys are marked anew
mark_anew : (key : List ℕ) (number : ℕ) (keys : List (List ℕ)) (marks : List Mark)
    → mark_of key (map (λ (k : List ℕ). record { key = k; tally = number }) keys ++ marks)
    ≡ cond (any_of (same_nats key) keys) (Some number) (mark_of key marks)
unfolding mark_of any_of
mark_anew key number [] marks = refl
mark_anew key number (k ∷ keys) marks = go (same_nats key k) (mark_anew key number keys marks)
  where
    go : (b : Bool) {earlier : Option ℕ}
        → earlier ≡ cond (any_of (same_nats key) keys) (Some number) (mark_of key marks)
        → cond b (Some number) earlier ≡ cond (b || any_of (same_nats key) keys) (Some number) (mark_of key marks)
    go true e = refl
    go false e = e

-- a key is among some where its number is among theirs
any_number : (g : ℕ) (key : List ℕ) (keys : List (List ℕ)) → SetFrom 0 g key
    → ((q : List ℕ) → Mem q keys → SetFrom 0 g q)
    → any_of (same_nats key) keys ≡ member_nat (set_number key) (map set_number keys)
unfolding member_nat any_of same_nats
any_number g key [] s h = refl
any_number g key (q ∷ keys) s h =
    rw (compare_sets s (h q (here refl)), any_number g key keys s (λ r k. h r (there k))) refl

-- ---- one orbit

module _ (p : Package) (permute : (row : Row) → Mem row p.rows → Permutes p.size row) where
  module _ (key : List ℕ) (s : SetFrom 0 p.size key) where
    abbrev sets : List (List ℕ)
    sets = map (set_image key) p.rows

    sets_are : (q : List ℕ) → Mem q sets → SetFrom 0 p.size q
    unfolding set_image
    sets_are q h =
        let r = of_map (set_image key) q p.rows h in
        let w = permute r.0 r.1 in
        subst (SetFrom 0 p.size) (sym r.2) (image_set p.size (image r.0) key s w.below w.one)

    map_numbers : (l : List Row)
        → map (λ (row : Row). set_number (set_image key row)) l ≡ map set_number (map (set_image key) l)
    map_numbers [] = refl
    map_numbers (row ∷ l) = ap (λ (m : List ℕ). set_number (set_image key row) ∷ m) (map_numbers l)

    numbers_are : image_numbers p.size (set_number key) p.rows ≡ map set_number sets
    unfolding image_numbers
    numbers_are = rw (vertices_number s) (map_numbers p.rows)

    none_seen : SeenAs p.size [] []
    unfolding member_nat
    none_seen = record { sets = λ q h. elim h [ ]; ascends = ascending_nil; agrees = λ x. refl }

    abbrev new : List ℕ
    new = added [] (image_numbers p.size (set_number key) p.rows)

    all : Joined p.size [] (key_images p key) [] new
    unfolding key_images
    all =
        subst (λ (l : List ℕ). Joined p.size [] (key_images p key) [] (added [] l)) (sym numbers_are)
        (joined p.size sets [] [] none_seen sets_are)

    new_length : length new ≡ length (key_images p key)
    new_length = let e = all.counted in omega arith

    images_are : (q : List ℕ) → Mem q (key_images p key) → SetFrom 0 p.size q
    images_are q h = all.known.sets q (subst (λ (l : List (List ℕ)). Mem q l) (sym (append-nil (key_images p key))) h)

    new_member : (q : List ℕ) → SetFrom 0 p.size q
        → member_nat (set_number q) new ≡ any_of (same_nats q) (key_images p key)
    new_member q t =
        all.known.agrees (set_number q)
        ∙ ap (λ (l : List (List ℕ)). member_nat (set_number q) (map set_number l)) (append-nil (key_images p key))
        ∙ sym (any_number p.size q (key_images p key) t images_are)

  module _ (done : ℕ) (c : Counted) (t : Tallies) (orbit : Orbit) (weight : ℕ) (f : CountFits done c)
      (free : done < 256) (a : Agrees p c t)
      (s : SetFrom 0 p.size (key_of p orbit)) (is-weight : weight ≡ p.count * orbit.count) where
    abbrev key : List ℕ
    key = key_of p orbit

    small : c.tallies < 256
    small = omega (arith, f.few_tallies)

    abbrev opened : Tally
    opened = record { images = length (key_images p key); sum = portion p orbit (length (key_images p key)) }

    -- the tallies with one more behind them
    at_old : (i : ℕ) → i < c.tallies → get_or (t.tallies ++ (opened ∷ [])) i no_tally ≡ get_or t.tallies i no_tally
    at_old i h = get_or-append t.tallies (opened ∷ []) no_tally i (omega (arith, a.number))

    at_new : get_or (t.tallies ++ (opened ∷ [])) c.tallies no_tally ≡ opened
    at_new = get_or_at t.tallies opened [] no_tally c.tallies (sym a.number)

    agrees_opened : Agrees p (count_by None p.size p.rows c (set_number key) weight) (open_tally p orbit t)
    unfolding count_by open_tally portion
    agrees_opened = record {
      number = ap suc a.number ∙ (let e = length-append t.tallies (opened ∷ []) in omega arith);
      marks = λ q u.
          latest_new c.tallies c.marks (new key s) small f.below (set_number q)
          ∙ (rw (new_member key s q u, a.marks q u, a.number) refl)
          ∙ sym (mark_anew q (length t.tallies) (key_images p key) t.marks);
      images = λ i h. image_at_holds i h (ℕ_discrete i c.tallies);
      sums = λ i h. sum_at_holds i h (ℕ_discrete i c.tallies);
    }
      where
        within : c.tallies < length c.images
        within = omega (arith, f.long_images, small)

        within_sums : c.tallies < length c.sums
        within_sums = omega (arith, f.long_sums, small)

        image_at_holds : (i : ℕ) → i < suc c.tallies → Dec (i ≡ c.tallies)
            → get_or (set c.images c.tallies (length (new key s))) i 0
            ≡ (get_or (t.tallies ++ (opened ∷ [])) i no_tally).images
        image_at_holds i h (yes e) =
            rw e (get_or-set_same c.images c.tallies (length (new key s)) 0 within ∙ new_length key s
            ∙ ap (λ (x : Tally). x.images) (sym at_new))
        image_at_holds i h (no n) =
            get_or-set_other c.images c.tallies i (length (new key s)) 0 n ∙ a.images i (omega arith)
            ∙ ap (λ (x : Tally). x.images) (sym (at_old i (omega arith)))

        sum_at_holds : (i : ℕ) → i < suc c.tallies → Dec (i ≡ c.tallies)
            → get_or (set c.sums c.tallies (weight / length (new key s))) i 0
            ≡ (get_or (t.tallies ++ (opened ∷ [])) i no_tally).sum
        sum_at_holds i h (yes e) =
            rw e (get_or-set_same c.sums c.tallies (weight / length (new key s)) 0 within_sums
            ∙ (rw (new_length key s, is-weight) refl) ∙ ap (λ (x : Tally). x.sum) (sym at_new))
        sum_at_holds i h (no n) =
            get_or-set_other c.sums c.tallies i (weight / length (new key s)) 0 n ∙ a.sums i (omega arith)
            ∙ ap (λ (x : Tally). x.sum) (sym (at_old i (omega arith)))

    agrees_added : (k : ℕ) → k < c.tallies
        → Agrees p (count_by (Some k) p.size p.rows c (set_number key) weight) (add_to_tally p orbit k t)
    unfolding count_by add_to_tally add_portion portion
    agrees_added k h = record {
      number = a.number ∙ sym (map_at_length add 0 t.tallies);
      marks = a.marks;
      images =
          λ i l. a.images i l ∙ same_images i (eqb i k) (get_or t.tallies i no_tally)
          ∙ ap (λ (x : Tally). x.images) (sym (at i l));
      sums = λ i l. sum_at_holds i l (ℕ_discrete i k) ∙ ap (λ (x : Tally). x.sum) (sym (at i l));
    }
      where
        add : ℕ → Tally → Tally
        add i x = cond (eqb i k) (add_portion p orbit x) x

        at : (i : ℕ) → i < c.tallies → get_or (map_at add 0 t.tallies) i no_tally ≡ add i (get_or t.tallies i no_tally)
        at i l =
            let z : 0 + i ≡ i = omega arith in
            map_at_at add 0 t.tallies i no_tally no_tally (omega (arith, a.number))
            ∙ ap (λ (j : ℕ). add j (get_or t.tallies i no_tally)) z

        same_images : (i : ℕ) (b : Bool) (x : Tally) → x.images ≡ (cond b (add_portion p orbit x) x).images
        same_images i true x = refl
        same_images i false x = refl

        sum_at_holds : (i : ℕ) → i < c.tallies → Dec (i ≡ k)
            → get_or (set c.sums k (get_or c.sums k 0 + weight / get_or c.images k 0)) i 0
            ≡ (add i (get_or t.tallies i no_tally)).sum
        sum_at_holds i l (yes e) =
            rw (e, eq-eqb k k refl) (get_or-set_same c.sums k (get_or c.sums k 0 + weight / get_or c.images k 0) 0
            (omega (arith, f.long_sums, small)) ∙ (rw (a.sums k h, a.images k h, is-weight) refl))
        sum_at_holds i l (no n) =
            get_or-set_other c.sums k i (get_or c.sums k 0 + weight / get_or c.images k 0) 0 n
            ∙ (rw (ne_eqb i k n) (a.sums i l))

    pub one_agrees : Agrees p (count_one p.size p.rows c (set_number key) weight) (tally_orbit p t orbit)
    unfolding count_one tally_orbit tally_by
    one_agrees = go (latest 256 c.marks (set_number key)) refl (a.marks key s)
      where
        go : (o : Option ℕ) → latest 256 c.marks (set_number key) ≡ o
            → latest 256 c.marks (set_number key) ≡ mark_of key t.marks
            → Agrees p (count_by o p.size p.rows c (set_number key) weight) (tally_by (mark_of key t.marks) p orbit t)
        go None e m = rw (← m) (rw e agrees_opened)
        go (Some k) e m = rw (← m) (rw e (agrees_added k (found_opened done c (set_number key) k f e).0))

-- ---- an orbit as it is stored

module _ (p : Package) (n : ℕ) where
  one_of : (permute : (row : Row) → Mem row p.rows → Permutes p.size row)
      (key_set : (x : ℕ) → SetFrom 0 p.size (set_image (vertices_of n x) p.globals))
      (done : ℕ) (c : Counted) (t : Tallies) (q : Pair) → done < 256 → CountFits done c → Agrees p c t
      → Agrees p (count_one p.size p.rows c (pair_key n p.globals q) (p.count * q.1)) (tally_orbit p t (orbit_of n q))
  unfolding pair_key orbit_of key_of
  one_of permute key_set done c t q h f a =
      one_agrees p permute done c t (orbit_of n q) (p.count * q.1) f h a (key_set q.0) refl

  -- what its key's tally has added up to
  same_sum : (c : Counted) (t : Tallies) (q : Pair) (done : ℕ) → CountFits done c → Agrees p c t
      → SetFrom 0 p.size (set_image (vertices_of n q.0) p.globals)
      → keeps_orbit p t (orbit_of n q) ≡ leb 2 (sum_by (latest 256 c.marks (pair_key n p.globals q)) c.sums)
  unfolding keeps_orbit sum_at sum_by pair_key orbit_of key_of
  same_sum c t q done f a s = ap (leb 2) (go (latest 256 c.marks (set_number key)) refl (a.marks key s))
    where
      key : List ℕ
      key = set_image (vertices_of n q.0) p.globals

      go : (o : Option ℕ) → latest 256 c.marks (set_number key) ≡ o → latest 256 c.marks (set_number key)
          ≡ mark_of key t.marks → sum_at (mark_of key t.marks) t.tallies ≡ sum_by o c.sums
      go None e m = rw (← m) (rw e refl)
      go (Some k) e m = rw (← m) (rw e (sym (a.sums k (found_opened done c (set_number key) k f e).0)))

-- ---- all orbits

module _ (p : Package) (permute : (row : Row) → Mem row p.rows → Permutes p.size row) (n : ℕ)
    (key_set : (x : ℕ) → SetFrom 0 p.size (set_image (vertices_of n x) p.globals)) (some_row : 0 < length p.rows)
    (few_rows : length p.rows ≤ 120) where
  abbrev counts : Counted → List Pair → Counted
  counts = count_all n p.globals p.size p.rows p.count

  abbrev Light : List Pair → Type 0
  Light qs = (i : ℕ) → i < length qs → p.count * (get_or qs i (0, 0)).1 ≤ most_weight

  all_agree : (done : ℕ) (c : Counted) (t : Tallies) (qs : List Pair) → Light qs → done + length qs ≤ 256
      → CountFits done c → Agrees p c t
      → Agrees p (counts c qs) (tally_orbits p t (map (orbit_of n) qs))
  unfolding count_all tally_orbits
  all_agree done c t [] light room f a = a
  all_agree done c t (q ∷ qs) light room f a =
      all_agree (suc done) (count_one p.size p.rows c (pair_key n p.globals q) (p.count * q.1))
      (tally_orbit p t (orbit_of n q)) qs (λ i h. light (suc i) (omega arith)) (omega arith)
      (one_fits done p.size p.rows c (pair_key n p.globals q) (p.count * q.1) f (omega arith)
      (light 0 (omega arith)) some_row few_rows)
      (one_of p n permute key_set done c t q (omega arith) f a)

  -- the orbits that are kept
  pub kept_are : (qs : List Pair) → Light qs → length qs ≤ 256
      → map (orbit_of n) (keep_pairs n p.globals (counts none_counted qs).marks (counts none_counted qs).sums qs)
      ≡ kept_by p (map (orbit_of n) qs)
  unfolding kept_by keep_pairs keeps_pair
  kept_are qs light room = sym (keep_map (keeps_orbit p t) (keeps_pair n p.globals c.marks c.sums) (orbit_of n) qs same)
    where
      c : Counted
      c = counts none_counted qs

      t : Tallies
      t = tally_orbits p no_tallies (map (orbit_of n) qs)

      fits : CountFits (0 + length qs) c
      fits = all_fit n p.globals p.size p.rows p.count some_row few_rows 0 none_counted qs light (omega arith) none_fits

      agree : Agrees p c t
      agree = all_agree 0 none_counted no_tallies qs light (omega arith) none_fits (none_agrees p)

      same : (q : Pair)
          → keeps_orbit p t (orbit_of n q) ≡ leb 2 (sum_by (latest 256 c.marks (pair_key n p.globals q)) c.sums)
      same q = same_sum p n c t q (0 + length qs) fits agree (key_set q.0)
