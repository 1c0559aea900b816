-- What each list has in common with the one before it, noted at its place, and what follows for the walks: a list
-- that begins as the one before it does, up to and with the first item of that one that is not found, is not found
-- either. Leans on how far a walk comes.
use Rattle.std.specs.Prelude.{◌≡◌, Option, Some, None, Bool, ◌&&◌, List, [], ◌∷◌, leb, get_or, drop}
use Rattle.std.proofs.Math.Path.{refl, sym}
use Rattle.std.proofs.Common.{◌∙◌, ⊎_elim, add-one, drop_of_length-le, drop-cons, length-set, get_or-set_same}
use Rattle.std.proofs.Common.{get_or-set_other}
use Rattle.std.proofs.Math.Bool.{true, false, not}
use Prim.Native.Nat.{ℕ, ◌+◌, ◌-◌, ◌≤◌, ◌<◌, compare}
use native.Mathlib.Omega.{arith}
use borrow.Author.Tests.{eq-eqb, ne_eqb, le-leb}
use Rattle.std.proofs.Math.ListN.{length, set, get_or-eq_default}
use Rattle.definitions.specs.Figures.{walk, first_above}
use Rattle.definitions.specs.Plain.{is_found, finds}
use Rattle.laws.specs.Orders.{nats, lt_compare}
use Rattle.laws.specs.Segments.{le_or_lt}
use Rattle.order.specs.Comparing.{above_compare}
use Rattle.labels.specs.Walked.{items_found, shared, found_within, found_all, shared_few, found_alike}
use Rattle.order.specs.declared.Area.{Area}
use Rattle.order.specs.Areas.{Holding, list_of, place_short}

-- ---- how many items two lists have in common, from places on

shared_next : (x : ℕ) (b c : List ℕ) → shared (x ∷ b) (x ∷ c) ≡ shared b c + 1
unfolding shared
shared_next x b c = rw (nats.self x, shared, add-one) refl

shared_none : (x y : ℕ) (b c : List ℕ) → (x ≡ y → ⊥) → shared (x ∷ b) (y ∷ c) ≡ 0
unfolding shared
shared_none x y b c differ =
    ⊎_elim (λ h. ⊎_elim (λ k. absurd (differ (omega arith))) (λ k. rw (lt_compare x y k, shared) refl) (le_or_lt y x))
    (λ h. rw (above_compare x y h, shared) refl) (le_or_lt x y)

shared_ends : (b : List ℕ) → shared b [] ≡ 0
unfolding shared
shared_ends [] = refl
shared_ends (x ∷ b) = refl

-- a place that is read below the mark is inside
pub before_end : (l : List ℕ) (i : ℕ) → get_or l i 65536 < 65536 → i < length l
before_end l i h =
    ⊎_elim (λ k. absurd (let e = get_or-eq_default l 65536 {n = i} k in omega arith)) (λ k. k) (le_or_lt (length l) i)

split : (l : List ℕ) (i : ℕ) → i < length l → drop i l ≡ get_or l i 65536 ∷ drop (i + 1) l
split l i h = drop-cons l i 65536 h ∙ rw add-one refl

module _ (b c : List ℕ) (i : ℕ) (so_far : i + shared (drop i b) (drop i c) ≡ shared b c) where
  pub shared_end : length b ≤ i → i ≡ shared b c
  unfolding shared
  shared_end h =
      let none : shared (drop i b) (drop i c) ≡ 0 = rw (drop_of_length-le b {i = i} h, shared) refl in
      omega arith

  module _ (in_b : i < length b) (small : get_or b i 65536 < 65536) where
    pub shared_differ : (get_or b i 65536 ≡ get_or c i 65536 → ⊥) → i ≡ shared b c
    shared_differ differ = ⊎_elim ended inside (le_or_lt (length c) i)
      where
        ended : length c ≤ i → i ≡ shared b c
        ended l =
            let none : shared (drop i b) (drop i c) ≡ 0 = rw (drop_of_length-le c {i = i} l) (shared_ends (drop i b)) in
            omega arith

        inside : i < length c → i ≡ shared b c
        inside l =
            let none : shared (drop i b) (drop i c) ≡ 0 = rw (split b i in_b, split c i l)
            (shared_none (get_or b i 65536) (get_or c i 65536) (drop (i + 1) b) (drop (i + 1) c) differ) in
            omega arith

    pub shared_more : get_or b i 65536 ≡ get_or c i 65536 → i < length c
        → i + 1 + shared (drop (i + 1) b) (drop (i + 1) c) ≡ shared b c
    shared_more e l =
        let one : shared (drop i b) (drop i c) ≡ shared (drop (i + 1) b) (drop (i + 1) c) + 1 = rw (
          split b i in_b,
          split c i l,
          ← e,
        ) (shared_next (get_or b i 65536) (drop (i + 1) b) (drop (i + 1) c)) in
        omega arith

-- ---- the notes

-- of the first so many lists each but the first has its note
pub record Noted (lists : List (List ℕ)) (many : ℕ) (notes : List ℕ) : Type 0 where
  pub each : (k : ℕ) → k + 1 < many → get_or notes (k + 1) 0 ≡ shared (get_or lists k []) (get_or lists (k + 1) [])

-- what two lists that follow one another have in common is less than 2 ^ 32
pub note_fits : (area : Area) (s : List ℕ) → Holding area s → (k : ℕ) → k + 1 < area.count → (v : ℕ) → v
    ≡ shared (list_of area s k) (list_of area s (k + 1)) → v < 4294967296
note_fits area s ok k h v e =
    omega (
      arith,
      e,
      shared_few (list_of area s k) (list_of area s (k + 1)),
      place_short area.most area.bytes area.count
          s (k + 1) h ok,
    )

-- a note is that of the lists before and at a place
pub note_at : (lists : List (List ℕ)) (many : ℕ) (notes : List ℕ) → Noted lists many notes → (b : ℕ) → 0 < b
    → b < many → get_or notes b 0 ≡ shared (get_or lists (b - 1) []) (get_or lists b [])
note_at lists many notes n b h l = let e : b - 1 + 1 ≡ b = omega arith in rw e at (n.each (b - 1) (omega arith))

-- before place k: so far the notes are taken, at as many places as there were
pub record Noting (lists : List (List ℕ)) (many places : ℕ) (notes : List ℕ) (k : ℕ) : Type 0 where
  pub from : 1 ≤ k
  pub long : length notes ≡ places
  pub noted : Noted lists k notes

pub noting_starts : (lists : List (List ℕ)) (many : ℕ) (notes : List ℕ) → Noting lists many (length notes) notes 1
noting_starts lists many notes =
    record { from = omega arith; long = refl; noted = record { each = λ k h. absurd (omega arith) } }

pub noting_more : (lists : List (List ℕ)) (many places : ℕ) (notes : List ℕ) (k v : ℕ)
    → Noting lists many places notes k → k < places
    → v ≡ shared (get_or lists (k - 1) []) (get_or lists (k - 1 + 1) [])
    → Noting lists many places (set notes k v) (k + 1)
noting_more lists many places notes k v n room is =
    record {
      from = omega arith;
      long = length-set notes k v ∙ n.long;
      noted = record {
        each = λ i h. ⊎_elim (λ l. last i (omega (arith, n.from))) (λ l. before i l) (le_or_lt k (i + 1));
      };
    }
  where
    last : (i : ℕ) → i + 1 ≡ k → get_or (set notes k v) (i + 1) 0 ≡ shared (get_or lists i []) (get_or lists (i + 1) [])
    last i same =
        let p : k - 1 ≡ i = omega arith in
        rw same (get_or-set_same notes k v 0 (omega (arith, n.long)) ∙ rw (p, same) at is)

    before : (i : ℕ) → i + 1 < k
        → get_or (set notes k v) (i + 1) 0 ≡ shared (get_or lists i []) (get_or lists (i + 1) [])
    before i l = get_or-set_other notes k (i + 1) v 0 (λ q. let z : i + 1 ≡ k = q in omega arith) ∙ n.noted.each i l

pub noting_ends : (lists : List (List ℕ)) (many places : ℕ) (notes : List ℕ) (k : ℕ) → Noting lists many places notes k
    → many ≤ k → Noted lists many notes
noting_ends lists many places notes k n h = record { each = λ i l. n.noted.each i (omega arith) }

-- ---- the walks

-- how far the walk through list a came in the list before place b, if one was made
pub record Walked (lists : List (List ℕ)) (a b : ℕ) (found : Option ℕ) : Type 0 where
  pub before : (items : ℕ) → found ≡ Some items
      → (0 < b) × (items ≡ items_found (get_or lists a []) (get_or lists (b - 1) []))

module _ (a b : List ℕ) where
  pub found_not : items_found a b < length b → false ≡ finds compare a b
  unfolding finds
  found_not h =
      let none : is_found (walk compare a b) ≡ false = found_all a b
      ∙ ne_eqb (items_found a b) (length b) (λ e. let q : items_found a b ≡ length b = e in omega arith) in
      sym (rw none (go (leb (length b) (length a) && not (first_above compare b a))))
    where
      go : (t : Bool) → t && false ≡ false
      go true = refl
      go false = refl

  pub found_whole : items_found a b ≡ length b → first_above compare b a ≡ false → true ≡ finds compare a b
  unfolding finds
  found_whole e f =
      let within = found_within a b in
      sym (rw (le-leb (length b) (length a) (omega arith), f, found_all a b) (eq-eqb (items_found a b) (length b) e))

module _ (lists : List (List ℕ)) (a b found : ℕ) where
  pub walked_on : found ≡ items_found (get_or lists a []) (get_or lists b []) → Walked lists a (b + 1) (Some found)
  walked_on e =
      let p : b + 1 - 1 ≡ b = omega arith in
      record { before = λ items h. (omega arith, let i : items ≡ found = cc in rw p (i ∙ e)) }

  pub walked_alike : Walked lists a b (Some found) → (v : ℕ) → found < v
      → (0 < b → v ≡ shared (get_or lists (b - 1) []) (get_or lists b []))
      → (false ≡ finds compare (get_or lists a []) (get_or lists b [])) × Walked lists a (b + 1) (Some found)
  walked_alike w v less note =
      let q = w.before found refl in
      let e : shared (get_or lists (b - 1) []) (get_or lists b []) ≡ v = sym (note q.0) in
      let same : items_found (get_or lists a []) (get_or lists b [])
      ≡ items_found (get_or lists a []) (get_or lists (b - 1) []) =
      found_alike (get_or lists a []) (get_or lists (b - 1) []) (get_or lists b []) (omega (arith, q.1)) in
      let few = shared_few (get_or lists (b - 1) []) (get_or lists b []) in
      (found_not (get_or lists a []) (get_or lists b []) (omega (arith, q.1)), walked_on (q.1 ∙ sym same))

pub walked_none : (lists : List (List ℕ)) (a b : ℕ) → Walked lists a b None
walked_none lists a b = record { before = λ items h. cc }
