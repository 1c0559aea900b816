-- Ridge orbits by marks: for each pair of ends the number of the ridge orbit that holds it, or none. Marks and counts
-- match the keys held so far (`MarksMatch`, `KnownKeys`). Over any rows, with the identity among them or not. Leans
-- on KeyMarks, and on codes of pairs.
use Rattle.std.specs.Prelude.{◌≡◌, Bool, cond, not, ◌||◌, T, eqb, set, take, drop, replicate}
use Rattle.std.proofs.Math.Path.{refl, ap}
use Rattle.std.proofs.Common.{sym, subst, ◌∙◌, eq-eqb, ne_eqb, get_or-set_same, get_or-set_other}
use Rattle.std.proofs.Math.Bool.{true, false}
use Rattle.std.specs.Prelude.{Option, Some, None}
use Rattle.std.specs.Option.{is_none}
use mathlib.Core.List.{List, [], ◌∷◌, ◌++◌, map}
use Prim.Native.Nat.{ℕ, suc, ◌+◌, ◌*◌, ◌≤◌, ◌<◌, min, max}
use native.Mathlib.Omega.{arith}
use Rattle.std.proofs.Math.Decide.{ℕ_discrete}
use Rattle.std.proofs.Math.ListN.{length, get_or, length-set}
use Rattle.std.proofs.lemmas.List.{length-replicate, get_or-replicate}
use Rattle.definitions.specs.Lists.{Pair, compare_pair, any_of, member_nat, member_pair, fresh}
use Rattle.definitions.specs.Orbits.{Row, image, pair_image}
use Rattle.laws.specs.Bools.{same_test}
use Rattle.laws.specs.Lists.{Mem, here, there, of_map, at_member}
use Rattle.laws.specs.Orders.{pairs}
use Rattle.laws.specs.Ascending.{seen_member}
use Rattle.laws.specs.Parts.{rows, get_d_rows, length_rows}
use Rattle.rows.specs.Rows.{rows_in, ImagesBelow, image_at_holds}
use Rattle.rows.specs.Codes.{pair_code, pair_codes}
use Rattle.rows.specs.Codes.{same_code_holds, code_small, member_codes, map_codes}
use Rattle.shapes.specs.Polygons.{edge_via}
use Rattle.shapes.specs.Ridges.{KnownKeys, no_keys, key_held_by, open_key_orbit, number_or_open_key}
use Rattle.shapes.specs.KeyMarks.{or_else, held_marked, marked_held, marks_after_holds}
use Rattle.shapes.specs.Kept.{number_ends}

-- ---- marks

-- a place without a mark gets one
unfoldable pub marked_at : List (Option ℕ) → ℕ → ℕ → List (Option ℕ)
marked_at marks number at = cond (is_none (get_or marks at None)) (set marks at (Some number)) marks

-- the marks after places joined, one behind another
unfoldable pub marks_joined : List (Option ℕ) → ℕ → List ℕ → List (Option ℕ)
marks_joined marks number [] = marks
marks_joined marks number (c ∷ cs) = marks_joined (marked_at marks number c) number cs

-- how many of them had no mark
unfoldable pub many_joined : List (Option ℕ) → ℕ → List ℕ → ℕ
many_joined marks number [] = 0
many_joined marks number (c ∷ cs) =
    cond (is_none (get_or marks c None)) 1 0 + many_joined (marked_at marks number c) number cs

pub marks_more : (marks : List (Option ℕ)) (number : ℕ) (cs : List ℕ) (c : ℕ)
    → marks_joined marks number (cs ++ (c ∷ [])) ≡ marked_at (marks_joined marks number cs) number c
unfolding marks_joined
marks_more marks number [] c = refl
marks_more marks number (d ∷ cs) c = marks_more (marked_at marks number d) number cs c

pub many_more : (marks : List (Option ℕ)) (number : ℕ) (cs : List ℕ) (c : ℕ)
    → many_joined marks number (cs ++ (c ∷ []))
    ≡ many_joined marks number cs + cond (is_none (get_or (marks_joined marks number cs) c None)) 1 0
unfolding marks_joined many_joined
many_more marks number [] c = omega arith
many_more marks number (d ∷ cs) c = let h = many_more (marked_at marks number d) number cs c in omega arith

pub marked_long : (marks : List (Option ℕ)) (number at : ℕ) → length (marked_at marks number at) ≡ length marks
unfolding marked_at
marked_long marks number at = go (is_none (get_or marks at None))
  where
    go : (b : Bool) → length (cond b (set marks at (Some number)) marks) ≡ length marks
    go true = length-set marks at (Some number)
    go false = refl

pub joined_long : (marks : List (Option ℕ)) (number : ℕ) (cs : List ℕ)
    → length (marks_joined marks number cs) ≡ length marks
unfolding marks_joined
joined_long marks number [] = refl
joined_long marks number (c ∷ cs) = joined_long (marked_at marks number c) number cs ∙ marked_long marks number c

pub many_few : (marks : List (Option ℕ)) (number : ℕ) (cs : List ℕ) → many_joined marks number cs ≤ length cs
unfolding many_joined
many_few marks number [] = omega arith
many_few marks number (c ∷ cs) = go (is_none (get_or marks c None)) (many_few (marked_at marks number c) number cs)
  where
    go : (b : Bool) → many_joined (marked_at marks number c) number cs ≤ length cs
        → cond b 1 0 + many_joined (marked_at marks number c) number cs ≤ suc (length cs)
    go true h = omega arith
    go false h = omega arith

marked_one : (marks : List (Option ℕ)) (number c u : ℕ) → u < length marks
    → get_or (marked_at marks number c) u None ≡ or_else (get_or marks u None) (cond (eqb u c) (Some number) None)
unfolding marked_at or_else
marked_one marks number c u h = go (ℕ_discrete u c)
  where
    old : (g : Option ℕ) → or_else g None ≡ g
    old None = refl
    old (Some g) = refl

    joins : (g : Option ℕ) → cond (is_none g) (Some number) g ≡ or_else g (Some number)
    joins None = refl
    joins (Some g) = refl

    off : (b : Bool) → (u ≡ c → ⊥) → get_or (cond b (set marks c (Some number)) marks) u None ≡ get_or marks u None
    off true n = get_or-set_other marks c u (Some number) None n
    off false n = refl

    on : (b : Bool)
        → get_or (cond b (set marks u (Some number)) marks) u None ≡ cond b (Some number) (get_or marks u None)
    on true = get_or-set_same marks u (Some number) None h
    on false = refl

    go : Dec (u ≡ c) → get_or (cond (is_none (get_or marks c None)) (set marks c (Some number)) marks) u None
        ≡ or_else (get_or marks u None) (cond (eqb u c) (Some number) None)
    go (yes e) = rw (← e, eq-eqb u u refl) (on (is_none (get_or marks u None)) ∙ joins (get_or marks u None))
    go (no n) = rw (ne_eqb u c n) (off (is_none (get_or marks c None)) n ∙ sym (old (get_or marks u None)))

-- a place's mark after places joined
pub joined_at : (marks : List (Option ℕ)) (k : ℕ) (cs : List ℕ) (u : ℕ) → u < length marks
    → get_or (marks_joined marks k cs) u None ≡ or_else (get_or marks u None) (cond (member_nat u cs) (Some k) None)
unfolding marks_joined member_nat any_of or_else
joined_at marks k [] u h = old (get_or marks u None)
  where
    old : (g : Option ℕ) → g ≡ or_else g None
    old None = refl
    old (Some g) = refl
joined_at marks k (c ∷ cs) u h =
    let l = marked_long marks k c in
    joined_at (marked_at marks k c) k cs u (omega arith)
    ∙ (ap (λ (g : Option ℕ). or_else g (cond (member_nat u cs) (Some k) None)) (marked_one marks k c u h)
    ∙ twice (get_or marks u None) (eqb u c) (member_nat u cs))
  where
    twice : (g : Option ℕ) (a b : Bool)
        → or_else (or_else g (cond a (Some k) None)) (cond b (Some k) None) ≡ or_else g (cond (a || b) (Some k) None)
    twice None true b = refl
    twice None false b = refl
    twice (Some g) a b = refl

-- ---- pairs whose images lie below 20

pub record Sent (m : ℕ) (s : List ℕ) (p : Pair) : Type 0 where
  pub first_small : p.0 < 20
  pub second_small : p.1 < 20
  pub first : ImagesBelow 20 p.0 m s
  pub second : ImagesBelow 20 p.1 m s

image_small : (m : ℕ) (s : List ℕ) (p : Pair) → Sent m s p → (q : Pair) → Mem q (map (pair_image p) (rows_in 32 m s))
    → (q.0 < 20) × (q.1 < 20)
unfolding pair_image rows_in
image_small m s p sent q h =
    let r = of_map (pair_image p) q (rows_in 32 m s) h in
    let i = at_member r.0 (rows 32 32 m s) [] r.1 in
    let len = length_rows 32 32 m s in
    let k : i.0 < m = omega (arith, i.1) in
    let is : take 32 (drop (32 * i.0) s) ≡ r.0 = sym (get_d_rows 32 32 m s i.0 k) ∙ i.2 in
    let e : get_or s (32 * i.0 + p.0) 0 ≡ image r.0 p.0 =
    sym (image_at_holds 32 i.0 s p.0 (omega (arith, sent.first_small))) ∙ ap (λ (l : Row). image l p.0) is in
    let f : get_or s (32 * i.0 + p.1) 0 ≡ image r.0 p.1 =
    sym (image_at_holds 32 i.0 s p.1 (omega (arith, sent.second_small))) ∙ ap (λ (l : Row). image l p.1) is in
    let a : q.0 ≡ min (image r.0 p.0) (image r.0 p.1) = ap (λ (x : Pair). x.0) r.2 in
    let b : q.1 ≡ max (image r.0 p.0) (image r.0 p.1) = ap (λ (x : Pair). x.1) r.2 in (
      omega (arith, sent.first.below i.0 k, sent.second.below i.0 k),
      omega (arith, sent.first.below i.0 k, sent.second.below i.0 k),
    )

-- ---- marks stand for the keys held

abbrev held_in : Pair → KnownKeys Pair → Option ℕ
held_in p keys = key_held_by compare_pair edge_via p keys.held

pub record MarksMatch (marks : List (Option ℕ)) (counts : List ℕ) (keys : KnownKeys Pair) : Type 0 where
  pub long : length marks ≡ 400
  pub marks_are : (p : Pair) → p.0 < 20 → p.1 < 20
      → get_or marks (pair_code p) None ≡ key_held_by compare_pair edge_via p keys.held
  pub counts_are : counts ≡ keys.counts

pub none_match : MarksMatch (replicate 400 None) [] (no_keys Pair)
unfolding no_keys key_held_by pair_code
none_match = record {
  long = length-replicate {A = Option ℕ} 400 None;
  marks_are = λ p h k. get_or-replicate {A = Option ℕ} 400 (20 * p.0 + p.1) None None (omega arith);
  counts_are = refl;
}

-- ---- how many join

-- a pair has no mark where it was not seen
Unseen : List (Option ℕ) → List Pair → Type 0
Unseen marks seen =
    (p : Pair) → p.0 < 20 → p.1 < 20 → is_none (get_or marks (pair_code p) None) ≡ not (member_pair p seen)

held_unseen : (marks : List (Option ℕ)) (counts : List ℕ) (keys : KnownKeys Pair) → MarksMatch marks counts keys
    → Unseen marks (map (λ (h : Pair × ℕ). h.0) keys.held)
unfolding member_pair Unseen
held_unseen marks counts keys s p h k = ap (λ (g : Option ℕ). is_none g) (s.marks_are p h k) ∙ go (held_in p keys) refl
  where
    seen : List Pair
    seen = map (λ (h : Pair × ℕ). h.0) keys.held

    go : (o : Option ℕ) → held_in p keys ≡ o → is_none o ≡ not (member_pair p seen)
    go None e = same_test true (not (member_pair p seen)) (λ t. absent (member_pair p seen) refl) (λ t. tt)
      where
        absent : (b : Bool) → member_pair p seen ≡ b → T (not b)
        absent true q =
            held_marked compare_pair pairs edge_via p keys.held e
            (seen_member compare_pair pairs p seen (subst T (sym q) tt))
        absent false q = tt
    go (Some number) e = present (member_pair p seen) (marked_held compare_pair pairs edge_via p keys.held number e)
      where
        present : (b : Bool) → T b → false ≡ not b
        present true t = refl
        present false t = absurd t

many_fresh : (marks : List (Option ℕ)) (k : ℕ) (seen images : List Pair) → length marks ≡ 400 → Unseen marks seen
    → ((q : Pair) → Mem q images → (q.0 < 20) × (q.1 < 20))
    → many_joined marks k (map pair_code images) ≡ length (fresh compare_pair seen images)
unfolding many_joined fresh Unseen marked_at member_pair any_of
many_fresh marks k seen [] l u small = refl
many_fresh marks k seen (x ∷ images) l u small =
    let s = small x (here refl) in
    go (member_pair x seen) refl (u x s.0 s.1) (many_fresh marks k seen images l u (λ q i. small q (there i)))
    (many_fresh (set marks (pair_code x) (Some k)) k (x ∷ seen) images (length-set marks (pair_code x) (Some k) ∙ l)
    (more s) (λ q i. small q (there i)))
  where
    one : (p : Pair) → p.0 < 20 → p.1 < 20 → (x.0 < 20) × (x.1 < 20) → Dec (pair_code p ≡ pair_code x)
        → is_none (get_or (set marks (pair_code x) (Some k)) (pair_code p) None)
        ≡ not (eqb (pair_code p) (pair_code x) || member_pair p seen)
    one p h i s (yes e) =
        rw (
          e,
          eq-eqb (pair_code x) (pair_code x) refl,
          get_or-set_same marks (pair_code x) (Some k) None (omega (arith, code_small x s.0 s.1, l)),
        ) refl
    one p h i s (no n) =
        rw (get_or-set_other marks (pair_code x) (pair_code p) (Some k) None n, ne_eqb (pair_code p) (pair_code x) n)
        (u p h i)

    more : (x.0 < 20) × (x.1 < 20) → Unseen (set marks (pair_code x) (Some k)) (x ∷ seen)
    more s p h i =
        one p h i s (ℕ_discrete (pair_code p) (pair_code x))
        ∙ ap (λ (b : Bool). not (b || member_pair p seen)) (sym (same_code_holds p x i s.1))

    go : (b : Bool) → member_pair x seen ≡ b → is_none (get_or marks (pair_code x) None) ≡ not (member_pair x seen)
        → many_joined marks k (map pair_code images) ≡ length (fresh compare_pair seen images)
        → many_joined (set marks (pair_code x) (Some k)) k (map pair_code images)
        ≡ length (fresh compare_pair (x ∷ seen) images)
        → cond (is_none (get_or marks (pair_code x) None)) 1 0
        + many_joined (cond (is_none (get_or marks (pair_code x) None)) (set marks (pair_code x) (Some k)) marks) k
        (map pair_code images)
        ≡ length (cond (member_pair x seen) (fresh compare_pair seen images) (x ∷ fresh compare_pair (x ∷ seen) images))
    go true e f a b = rw (f, e) (omega (arith, a))
    go false e f a b = rw (f, e) (omega (arith, b))

-- ---- a ridge orbit is opened

module _ (m : ℕ) (s : List ℕ) (p : Pair) (sent : Sent m s p) (marks : List (Option ℕ)) (counts : List ℕ)
    (keys : KnownKeys Pair) (stands : MarksMatch marks counts keys) where
  images : List Pair
  images = map (pair_image p) (rows_in 32 m s)

  codes : List ℕ
  codes = pair_codes (rows_in 32 m s) p

  codes_are : codes ≡ map pair_code images
  unfolding codes images
  codes_are = map_codes (rows_in 32 m s) p

  small : (q : Pair) → Mem q images → (q.0 < 20) × (q.1 < 20)
  unfolding images
  small = image_small m s p sent

  known_is : length counts ≡ length keys.counts
  known_is = ap length stands.counts_are

  opened_marks : (q : Pair) → q.0 < 20 → q.1 < 20
      → get_or (marks_joined marks (length counts) codes) (pair_code q) None
      ≡ key_held_by compare_pair edge_via q (open_key_orbit compare_pair edge_via (rows_in 32 m s) keys p).held
  unfolding images edge_via pair_image member_pair
  opened_marks q h k =
      let mark : Option ℕ = get_or marks (pair_code q) None in
      joined_at marks (length counts) codes (pair_code q) (omega (arith, code_small q h k, stands.long))
      ∙ (ap (λ (c : List ℕ). or_else mark (cond (member_nat (pair_code q) c) (Some (length counts)) None)) codes_are
      ∙ (ap (λ (b : Bool). or_else mark (cond b (Some (length counts)) None))
      (member_codes q images k (λ x i. (small x i).1))
      ∙ (ap (λ (g : Option ℕ).
      or_else g (cond (member_pair q images) (Some (length counts)) None)) (stands.marks_are q h k)
      ∙ (ap (λ (n : ℕ). or_else (held_in q keys) (cond (member_pair q images) (Some n) None)) known_is
      ∙ sym (marks_after_holds compare_pair pairs edge_via (rows_in 32 m s) keys p q)))))

  pub opened_match : MarksMatch (marks_joined marks (length counts) (pair_codes (rows_in 32 m s) p)) (counts
      ++ (many_joined marks (length counts) (pair_codes (rows_in 32 m s) p) ∷ []))
      (open_key_orbit compare_pair edge_via (rows_in 32 m s) keys p)
  unfolding open_key_orbit codes images edge_via pair_image
  opened_match = record {
    long = joined_long marks (length counts) codes ∙ stands.long;
    marks_are = opened_marks;
    counts_are =
        let many : many_joined marks (length counts) codes
        ≡ length (fresh compare_pair (map (λ (h : Pair × ℕ). h.0) keys.held) images) =
        ap (many_joined marks (length counts)) codes_are ∙ many_fresh marks (length counts)
        (map (λ (h : Pair × ℕ). h.0) keys.held) images stands.long (held_unseen marks counts keys stands) small in
        λ t. stands.counts_are t ++ (many t ∷ []);
  }

  -- the number of a pair with a mark, and of one without
  pub number_held : (number : ℕ) → get_or marks (pair_code p) None ≡ Some number
      → number_ends (rows_in 32 m s) keys p ≡ (number, keys)
  unfolding number_ends number_or_open_key
  number_held number h =
      ap (number_or_open_key compare_pair edge_via (rows_in 32 m s) keys p)
      (sym (stands.marks_are p sent.first_small sent.second_small) ∙ h)

  pub number_opened : get_or marks (pair_code p) None ≡ None → number_ends (rows_in 32 m s) keys p
      ≡ (length counts, open_key_orbit compare_pair edge_via (rows_in 32 m s) keys p)
  unfolding number_ends number_or_open_key
  number_opened h =
      ap (number_or_open_key compare_pair edge_via (rows_in 32 m s) keys p)
      (sym (stands.marks_are p sent.first_small sent.second_small) ∙ h)
      ∙ (λ t. (sym known_is t, open_key_orbit compare_pair edge_via (rows_in 32 m s) keys p))
