-- The turns of the loops that make the search's tables. Leans on Codes and Areas.
use mathlib.Core.Path.{◌≡◌, refl, sym, ap, subst, ◌∙◌}
use mathlib.Core.List.{List, [], ◌∷◌, ◌++◌, append-nil}
use Prim.Native.Nat.{ℕ, zero, suc, ◌+◌, ◌*◌, ◌-◌, ◌/◌, ◌%◌, ◌≤◌, ◌<◌, min}
use native.Mathlib.Omega.{arith}
use native.Mathlib.Decide.{ℕ_discrete}
use native.Mathlib.Nat.{mul-le-mul_right}
use lib.ListN.{length, get_or, take, drop, set, replicate, length-set, length-drop, get_or-map}
use Rattle.std.proofs.Math.Logic.{⊎_elim}
use Rattle.std.proofs.lemmas.List.{map-set, drop_more}
use lib.Seq.{take_all, get_or-set_same, get_or-set_other}
use Rattle.definitions.specs.Search.{last_share}
use Rattle.laws.specs.Parts.{take_more}
use Rattle.laws.specs.Segments.{placed, le_or_lt}
use Rattle.pool.specs.Pool.{base, used, pushed, ended}
use Rattle.shares.specs.Areas.{area, flat, AreaRoom, AreaEmpty, Joined, AreaGrown, flat_few, lists_to, lists_long}
use Rattle.shares.specs.Areas.{lists_at_holds, joined_room, joined_more, joined_none, push_asks, joined_push}
use Rattle.shares.specs.Areas.{joined_end}
use Rattle.ridges.specs.Codes.{touched_of, ones_in, ones_to, ones_append, one_joins, one_stays, ones_to_few, ones_more}
use Rattle.ridges.specs.Codes.{PlacesCounted, many_in, last_in, shares_here, amount_of, here_none, here_joins}
use Rattle.ridges.specs.Codes.{here_stays, touched_to, touched_code, touched_more, code_some, code_none, touched_few}
use Rattle.ridges.specs.Codes.{amount_small}
use Rattle.ridges.specs.declared.Counted.{Counted}
use Rattle.ridges.proofs.Codes.{ones_left}

-- where the rest of a list from a place on begins
pub next_at : (l rest : List ℕ) (i v : ℕ) → drop i l ≡ v ∷ rest
    → (i < length l) × (get_or l i 0 ≡ v) × (drop (i + 1) l ≡ rest)
next_at l rest i v e = ⊎_elim
    (λ k. absurd (let n = ap length e in let d = length-drop i l in omega arith))
    (λ h. let q = sym (drop_more l i 0 h) ∙ e in
    (h, ap (λ (r : List ℕ). get_or r 0 0) q, ap (λ (r : List ℕ). drop 1 r) q)) (le_or_lt (length l) i)

-- and where nothing is left
pub all_read : (l : List ℕ) (i : ℕ) → drop i l ≡ [] → length l ≤ i
all_read l i e = let n = ap length e in let d = length-drop i l in omega arith

-- ---- what a facet adds to one ridge orbit

-- the first i places are counted
pub record Adding (codes : List ℕ) (ridge places last i : ℕ) : Type 0 where
  pub within : i ≤ length codes
  pub few : places ≤ i
  pub small : last < 65536
  pub places_are : places ≡ length (shares_here ridge (take i codes))
  pub last_is : last ≡ last_share 0 (shares_here ridge (take i codes))

pub adding_start : (codes : List ℕ) (ridge : ℕ) → Adding codes ridge 0 0 0
unfolding last_share
adding_start codes ridge = record {
  within = omega arith;
  few = omega arith;
  small = omega arith;
  places_are = rw here_none refl;
  last_is = rw here_none refl;
}

module _ {codes : List ℕ} {ridge places last i : ℕ} (a : Adding codes ridge places last i) (h : i < length codes)
    (code : ℕ) (e : code ≡ get_or codes i 0) where
  more : take (i + 1) codes ≡ take i codes ++ (code ∷ [])
  more = take_more codes i 0 h ∙ ap (λ (c : ℕ). take i codes ++ (c ∷ [])) (sym e)

  pub adding_joins : code / 4 ≡ ridge → Adding codes ridge (places + 1) (code % 4) (i + 1)
  adding_joins q =
      let j = here_joins ridge (take i codes) code q in
      record {
        within = omega arith;
        few = omega (arith, a.few);
        small = omega arith;
        places_are = rw more (omega (arith, j.0, a.places_are));
        last_is = rw more (sym j.1);
      }

  pub adding_stays : (code / 4 ≡ ridge → ⊥) → Adding codes ridge places last (i + 1)
  adding_stays n =
      let j = here_stays ridge (take i codes) code n in
      record {
        within = omega arith;
        few = omega (arith, a.few);
        small = a.small;
        places_are = rw (more, j) a.places_are;
        last_is = rw (more, j) a.last_is;
      }

-- where nothing is counted yet
abbrev pub none_counted : Counted
none_counted = record { places = 0; last = 0 }

-- for each of the first ridge orbits
pub record AddingAll (ridges : ℕ) (codes places last : List ℕ) (i : ℕ) : Type 0 where
  pub places_long : length places ≡ 190
  pub last_long : length last ≡ 190
  pub each : (ridge : ℕ) → ridge < ridges → Adding codes ridge (get_or places ridge 0) (get_or last ridge 0) i

pub all_start : (ridges : ℕ) (codes : List ℕ) → AddingAll ridges codes (replicate 190 0) (replicate 190 0) 0
all_start ridges codes = record {
  places_long = refl;
  last_long = refl;
  each = λ ridge h. rw zero_at (adding_start codes ridge);
}
  where
    zeros : (n k : ℕ) → ◌≡◌ {A = ℕ} (get_or (replicate n 0) k 0) 0
    zeros zero k = refl
    zeros (suc n) zero = refl
    zeros (suc n) (suc k) = zeros n k

    zero_at : (k : ℕ) → ◌≡◌ {A = ℕ} (get_or (replicate 190 0) k 0) 0
    zero_at k = zeros 190 k

module _ {ridges : ℕ} {codes places last : List ℕ} {i : ℕ} (a : AddingAll ridges codes places last i)
    (h : i < length codes) (code : ℕ) (e : code ≡ get_or codes i 0) (few : ridges ≤ 190) where
  pub all_joins : code / 4 < ridges
      → AddingAll ridges codes (set places (code / 4) (get_or places (code / 4) 0 + 1))
      (set last (code / 4) (code % 4)) (i + 1)
  all_joins k = record {
    places_long = length-set places (code / 4) (get_or places (code / 4) 0 + 1) ∙ a.places_long;
    last_long = length-set last (code / 4) (code % 4) ∙ a.last_long;
    each = λ ridge l. go ridge l (ℕ_discrete ridge (code / 4));
  }
    where
      go : (ridge : ℕ) → ridge < ridges → Dec (ridge ≡ code / 4)
          → Adding codes ridge (get_or (set places (code / 4) (get_or places (code / 4) 0 + 1)) ridge 0)
          (get_or (set last (code / 4) (code % 4)) ridge 0) (i + 1)
      go ridge l (yes q) =
          rw (
            q,
            get_or-set_same places (code / 4) (get_or places (code / 4) 0 + 1) 0
                (omega (arith, a.places_long)),
            get_or-set_same last (code / 4) (code % 4) 0 (omega (arith, a.last_long)),
          ) (adding_joins (a.each (code / 4) k) h code e refl)
      go ridge l (no n) =
          rw (
            get_or-set_other places (code / 4) ridge (get_or places (code / 4) 0 + 1) 0 n,
            get_or-set_other last (code / 4) ridge (code % 4) 0 n,
          )
          (adding_stays (a.each ridge l) h code e (λ q. n (sym q)))

  pub all_stay : ridges ≤ code / 4 → AddingAll ridges codes places last (i + 1)
  all_stay k = record {
    places_long = a.places_long;
    last_long = a.last_long;
    each = λ ridge l. adding_stays (a.each ridge l) h code e (λ q. omega arith);
  }

pub all_end : {ridges : ℕ} {codes places last : List ℕ} {i : ℕ} → AddingAll ridges codes places last i
    → length codes ≤ i → PlacesCounted ridges codes places last
all_end {ridges} {codes} {places} {last} {i} a h =
    let e : take i codes ≡ codes = take_all i codes h in
    record {
      places_long = a.places_long;
      last_long = a.last_long;
      many = λ ridge l. (a.each ridge l).places_are ∙ ap (λ (l : List ℕ). length (shares_here ridge l)) e;
      share = λ ridge l. (a.each ridge l).last_is ∙ ap (λ (l : List ℕ). last_share 0 (shares_here ridge l)) e;
    }

-- a count is no more than the codes looked at
pub counted_few : {ridges : ℕ} {codes : List ℕ} (counted : List Counted) {i : ℕ}
    → AddingAll ridges codes (many_in counted) (last_in counted) i → (ridge : ℕ) → ridge < ridges
    → (get_or counted ridge none_counted).places ≤ i
counted_few {ridges} {codes} counted a ridge h =
    rw (get_or-map (λ (t : Counted). t.places) counted ridge none_counted) at (a.each ridge h).few

-- one code more, in one row of counts
pub counted_joins : {ridges : ℕ} {codes : List ℕ} (counted : List Counted) {i : ℕ}
    → AddingAll ridges codes (many_in counted) (last_in counted) i → i < length codes → (code : ℕ)
    → code ≡ get_or codes i 0 → ridges ≤ 190 → code / 4 < ridges
    → (let now =
    set counted (code / 4) (record {
      places = (get_or counted (code / 4) none_counted).places + 1;
      last = code % 4;
    }) in AddingAll ridges codes (many_in now) (last_in now) (i + 1))
counted_joins {ridges} {codes} counted {i} a h code e few k =
    let t : Counted = record {
      places = (get_or counted (code / 4) none_counted).places + 1;
      last = code % 4;
    } in
    rw (
      map-set (λ (t : Counted). t.places) counted (code / 4) t,
      map-set (λ (t : Counted). t.last) counted (code / 4) t,
      ← get_or-map (λ (t : Counted). t.places) counted (code / 4) none_counted,
    )
    (all_joins a h code e few k)

-- what that comes to
pub counted_amount : {ridges : ℕ} {codes : List ℕ} (counted : List Counted)
    → PlacesCounted ridges codes (many_in counted) (last_in counted) → (ridge : ℕ) → ridge < ridges
    → (added : ℕ)
    → added ≡ min ((get_or counted ridge none_counted).last * (get_or counted ridge none_counted).places) 3
    → added ≡ amount_of ridge codes
unfolding amount_of
counted_amount {ridges} {codes} counted c ridge h added e =
    let p = sym (get_or-map (λ (t : Counted). t.places) counted ridge none_counted) ∙ c.many ridge h in
    let q = sym (get_or-map (λ (t : Counted). t.last) counted ridge none_counted) ∙ c.share ridge h in
    e ∙ (λ t. min (q t * p t) 3)

-- ---- what a facet adds, as a list

module _ {from to most : ℕ} {ws₀ : List ℕ} {ridges : ℕ} (codes : List ℕ)
    (ready : AreaEmpty from to 2 most ws₀ ridges 1) where
  pub touch_start : Joined from to 2 most ws₀ ws₀ (touched_to 0 codes)
  unfolding touched_to
  touch_start = joined_none ready.space

  module _ {ws : List ℕ} (ridge : ℕ) (j : Joined from to 2 most ws₀ ws (touched_to ridge codes)) where
    module _ (h : ridge < ridges) where
      pub touch_asks : (base most + 2 * (used (area from to ws) + 1) ≤ length (area from to ws))
          × (used (area from to ws) + 1 < 4294967296)
      touch_asks = push_asks ready.space j (omega (arith, touched_few ridge codes))

      pub touch_joins : (added : ℕ) → added ≡ amount_of ridge codes → 0 < added → ridges ≤ 190 → (p : List ℕ)
          → p ≡ pushed 2 most (area from to ws) (4 * ridge + added)
          → Joined from to 2 most ws₀ (placed from (to - from) ws p) (touched_to (ridge + 1) codes)
      touch_joins added e some few p q =
          let m : touched_to (ridge + 1) codes ≡ touched_to ridge codes ++ ((4 * ridge + added) ∷ []) =
          touched_more ridge codes ∙ ap (λ (l : List ℕ). touched_to ridge codes ++ l)
          (ap (touched_code ridge) (sym e) ∙ code_some ridge added some) in
          rw m (joined_push ready.space j (omega (arith, touched_few ridge codes)) (4 * ridge + added) p
          (omega (arith, amount_small ridge codes)) q)

    pub touch_stays : (added : ℕ) → added ≡ amount_of ridge codes → added ≤ 0
        → Joined from to 2 most ws₀ ws (touched_to (ridge + 1) codes)
    touch_stays added e none =
        let m : touched_to (ridge + 1) codes ≡ touched_to ridge codes =
        touched_more ridge codes ∙ (ap (λ (l : List ℕ). touched_to ridge codes ++ l) (ap (touched_code ridge) (sym e)
        ∙ code_none ridge added (omega arith)) ∙ append-nil (touched_to ridge codes)) in
        rw m j

-- ---- what every facet adds

-- room for what one facet more adds
pub touched_room_holds : (ridges : ℕ) (lists : List (List ℕ)) (x facets : ℕ) → x < facets
    → length (flat (lists_to (touched_of ridges lists) x)) + ridges ≤ facets * ridges
touched_room_holds ridges lists x facets h =
    let n = lists_long (touched_of ridges lists) x in
    let f = flat_few (lists_to (touched_of ridges lists) x) ridges (λ k i.
    rw (lists_at_holds (touched_of ridges lists) x k [] (omega arith)) (touched_few ridges (get_or lists k []))) in
    let g : length (lists_to (touched_of ridges lists) x) * ridges ≡ x * ridges = ap (λ (j : ℕ). j * ridges) n in
    let m : suc x * ridges ≤ facets * ridges = mul-le-mul_right ridges h in
    let q : suc x * ridges ≡ x * ridges + ridges = omega arith in
    omega arith

-- ---- shares of 1

module _ {from to most : ℕ} {ws₀ : List ℕ} {lists : ℕ} (ridge x : ℕ) (codes : List ℕ)
    (room : AreaRoom from to 2 most ws₀ (length (ones_in ridge x codes)) lists) where
  pub ones_start : Joined from to 2 most ws₀ ws₀ (ones_in ridge x (take 0 codes))
  unfolding ones_in
  ones_start = joined_none room

  module _ {ws : List ℕ} (i : ℕ) (j : Joined from to 2 most ws₀ ws (ones_in ridge x (take i codes)))
      (h : i < length codes) (code : ℕ) (v : code ≡ get_or codes i 0) where
    one_more : ones_in ridge x (take (i + 1) codes) ≡ ones_in ridge x (take i codes) ++ ones_in ridge x (code ∷ [])
    one_more =
        ap (ones_in ridge x) (take_more codes i 0 h ∙ ap (λ (c : ℕ). take i codes ++ (c ∷ [])) (sym v))
        ∙ ones_append ridge x (take i codes) (code ∷ [])

    pub ones_asks : 4 * ridge + 1 ≡ code → (base most + 2 * (used (area from to ws) + 1) ≤ length (area from to ws))
        × (used (area from to ws) + 1 < 4294967296)
    ones_asks e = push_asks room j (ones_left ridge x codes i h (sym v ∙ sym e))

    pub ones_joins : 4 * ridge + 1 ≡ code → x < 65536 → (p : List ℕ) → p ≡ pushed 2 most (area from to ws) x
        → Joined from to 2 most ws₀ (placed from (to - from) ws p) (ones_in ridge x (take (i + 1) codes))
    ones_joins e small p q =
        rw (one_more, one_joins ridge x code e)
        (joined_push room j (ones_left ridge x codes i h (sym v ∙ sym e)) x p (omega arith) q)

    pub ones_stays : (4 * ridge + 1 ≡ code → ⊥) → Joined from to 2 most ws₀ ws (ones_in ridge x (take (i + 1) codes))
    ones_stays n = rw (one_more, one_stays ridge x code n, append-nil (ones_in ridge x (take i codes))) j

  pub ones_end : {ws : List ℕ} (i : ℕ) → Joined from to 2 most ws₀ ws (ones_in ridge x (take i codes))
      → length codes ≤ i → Joined from to 2 most ws₀ ws (ones_in ridge x codes)
  ones_end {ws} i j h = subst (λ (l : List ℕ). Joined from to 2 most ws₀ ws (ones_in ridge x l)) (take_all i codes h) j

-- facet by facet
module _ {from to most : ℕ} {ws₀ : List ℕ} (ridge : ℕ) (lists : List (List ℕ)) (facets : ℕ)
    (ready : AreaEmpty from to 2 most ws₀ (length (ones_to ridge lists facets)) 1) where
  pub ridge_start : Joined from to 2 most ws₀ ws₀ (ones_to ridge lists 0)
  unfolding ones_to
  ridge_start = joined_none ready.space

  module _ {ws : List ℕ} (x : ℕ) (j : Joined from to 2 most ws₀ ws (ones_to ridge lists x)) where
    pub ridge_room_holds : x < facets → AreaRoom from to 2 most ws (length (ones_in ridge x (get_or lists x []))) 1
    ridge_room_holds h =
        joined_room ready.space j (length (ones_in ridge x (get_or lists x []))) (ones_to_few ridge lists x facets h)

    pub ridge_more : {t : List ℕ} → Joined from to 2 most ws t (ones_in ridge x (get_or lists x []))
        → Joined from to 2 most ws₀ t (ones_to ridge lists (x + 1))
    ridge_more {t} k = rw (ones_more ridge lists x) (joined_more ready.space j k)

    pub ridge_end : facets ≤ x → x ≤ facets → (p : List ℕ) → p ≡ ended (area from to ws)
        → AreaGrown from to 2 most ws₀ (placed from (to - from) ws p) (ones_to ridge lists facets ∷ [])
    ridge_end a b p e = let q : x ≡ facets = omega arith in rw (← q) (joined_end ready j (omega arith) p e)
