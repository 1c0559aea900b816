-- Theorems on the definitions of specs/LevelMoves.
use Rattle.std.specs.Prelude.{◌≡◌, length, get_or, drop}
use Rattle.std.proofs.Math.Path.{refl, sym, ap, subst}
use Rattle.std.proofs.Common.{◌∙◌}
use mathlib.Core.List.{List, [], ◌∷◌, map, map-map}
use Prim.Native.Nat.{ℕ, zero, suc, compare}
use Rattle.definitions.specs.Lists.{compare_nats, sort_by, sort_nats}
use Rattle.definitions.specs.Figures.{Elements, number_in, sort_ranks}
use Rattle.laws.specs.Lists.{Mem, here, in_map, of_map}
use Rattle.laws.specs.Orders.{nats, nat_lists, lt_compare}
use Rattle.laws.specs.Ascending.{Ascends, Distinct, ascends_distinct, in_in_order}
use Rattle.laws.specs.Places.{map_apart, place_in, place_apart, place_ascends, in_order_map, sort_distinct}
use Rattle.laws.specs.Places.{distinct_map, map_same}
use Rattle.shapes.specs.Assemble.{lowest_by}
use Rattle.shapes.specs.Gathered.{sort_all}
use Rattle.shapes.specs.Levels.{Levels, Sets, over, over_sets, items_in_order, lowest_in, places_in, ranks_on, ranks_of}
use Rattle.shapes.specs.Levels.{lowest_in_ascends, lowest_in_good, ranks_of_over, ranks_of_sent}
use Rattle.shapes.specs.LevelFigures.{Written, Within, written_apart, written_number, written_at, places_written}
use Rattle.shapes.specs.LevelFigures.{over_within}
use Rattle.shapes.specs.LevelMoves.{Sending, lowest_in_sent, over_sending}

-- ---- items sent and put in order

-- items sent into a rank and numbered there, sorted
sent_places : (T : Levels) (G : Sets T) (U : Levels) (H : Sets U) (h : Sending T G U H) (all : List (U.Item zero))
    → Ascends (U.order zero) all → (y : T.Item (suc zero)) → G.Good (suc zero) y
    → ((z : T.Item zero) → Mem z (T.subs zero y) → Mem (h.to zero z) all)
    → sort_nats (map (λ (z : T.Item zero). place_in (U.order zero) (U.linear zero) all (h.to zero z)) (T.subs zero y))
    ≡ places_in U zero all (h.to (suc zero) y)
unfolding sort_nats
sent_places T G U H h all up y g inside =
    let c = U.order zero in
    let order = U.linear zero in
    let place : U.Item zero → ℕ = place_in c order all in
    let subs = T.subs zero y in
    let sent = map (h.to zero) subs in
    let in_all : (z : U.Item zero) → Mem z sent → Mem z all = λ z m. let r = of_map (h.to zero) z subs m in
    subst (λ (w : U.Item zero). Mem w all) (sym r.2) (inside r.0 r.1) in
    let different : Distinct sent =
    distinct_map (T.order zero) (T.linear zero) c order (h.to zero) (G.Good zero) (h.apart zero) subs
    (G.good zero y g) (ascends_distinct (T.order zero) (T.linear zero) subs (G.ascends zero y g)) in
    let numbered : Distinct (map place sent) = distinct_map c order compare nats place (λ z. Mem z all)
    (λ w z i j e. place_apart c order w w z all i j e) sent in_all different in
    ap (sort_by compare) (sym (map-map place (h.to zero) subs))
    ∙ sort_distinct compare nats (map place sent) numbered
    ∙ in_order_map c order compare nats place (λ z. Mem z all)
    (λ w z i j e. lt_compare (place w) (place z) (place_ascends c order w w z all up i j e)) sent in_all
    ∙ ap (map place) (sym (h.subs zero y g))

-- ranks that stand over a rank: it is sorted, and they are numbered by its order
sort_over : (T : Levels) (write : T.Item zero → List ℕ) (k : ℕ) (x : T.Item k) (es : Elements)
    → sort_all (es ∷ ranks_of T write k x) ≡ sort_by compare_nats es
    ∷ sort_all (lowest_by (λ (i : ℕ). number_in (sort_by compare_nats es) (get_or es i [])) (ranks_of T write k x))
unfolding sort_all sort_ranks lowest_by ranks_of ranks_on
sort_over T write zero x es = refl
sort_over T write (suc k) x es = refl

-- the ranks of an item with its lowest items sent, sorted, are the ranks of the item sent
pub ranks_sent : (k : ℕ) (T : Levels) (G : Sets T) (U : Levels) (H : Sets U) (h : Sending T G U H) (bound : ℕ)
    (P : U.Item zero → Type 0) (write : U.Item zero → List ℕ) → Written U bound P write → (x : T.Item k) → G.Good k x
    → ((z : U.Item zero) → Mem z (lowest_in U k (h.to k x)) → P z)
    → sort_all (ranks_of T (λ (z : T.Item zero). write (h.to zero z)) k x) ≡ ranks_of U write k (h.to k x)
unfolding ranks_of sort_all sort_ranks
ranks_sent zero T G U H h bound P write written x g p = refl
ranks_sent (suc k) T G U H h bound P write written x g p =
    let c = U.order zero in
    let order = U.linear zero in
    let to : T.Item zero → U.Item zero = h.to zero in
    let own = lowest_in T (suc k) x in
    let all = lowest_in U (suc k) (h.to (suc k) x) in
    let up = lowest_in_ascends U H (suc k) (h.to (suc k) x) (h.good (suc k) x g) in
    let first : T.Item zero → List ℕ = λ z. write (to z) in
    let same : items_in_order U zero (map to own) ≡ all = lowest_in_sent T G U H h (suc k) x g in
    let of-own : (z : U.Item zero) → Mem z (map to own) → Mem z all =
    λ z m. subst (λ (l : List (U.Item zero)). Mem z l) same (in_in_order c order z (map to own) m) in
    let own_in : (z : T.Item zero) → Mem z own → Mem (to z) all = λ z m. of-own (to z) (in_map to z own m) in
    let different : Distinct (map write (map to own)) =
    distinct_map c order compare_nats nat_lists write (λ z. Mem z all)
    (λ y z i j e. written_apart U bound P write written y z (p y i) (p z j) e) (map to own) of-own
    (distinct_map (T.order zero) (T.linear zero) c order to (G.Good zero) (h.apart zero) own
    (lowest_in_good T G (suc k) x g)
    (ascends_distinct (T.order zero) (T.linear zero) own (lowest_in_ascends T G (suc k) x g))) in
    let sorted : sort_by compare_nats (map first own) ≡ map write all =
    ap (sort_by compare_nats) (sym (map-map write to own))
    ∙ sort_distinct compare_nats nat_lists (map write (map to own)) different
    ∙ in_order_map c order compare_nats nat_lists write (λ z. Mem z all)
    (λ y z i j e. written.keeps y z (p y i) (p z j) ∙ e) (map to own) of-own
    ∙ ap (map write) same in
    let number : ℕ → ℕ = λ i. number_in (sort_by compare_nats (map first own)) (get_or (map first own) i []) in
    let one : (y : T.Item (suc zero)) → Mem y (lowest_in (over T) k x)
    → sort_nats (map number (places_in T zero own y)) ≡ places_in U zero all (h.to (suc zero) y) = λ y m.
    let within = over_within T G k x g own (λ z i. i) y m in
    ap sort_nats
    (map-map number (place_in (T.order zero) (T.linear zero) own) (T.subs zero y)
    ∙ map_same (λ (z : T.Item zero). number (place_in (T.order zero) (T.linear zero) own z))
    (λ (z : T.Item zero). place_in c order all (to z)) (T.subs zero y)
    (λ z i.
    ap (number_in (sort_by compare_nats (map first own))) (written_at T first own z (within.1 z i))
    ∙ ap (λ (es : Elements). number_in es (first z)) sorted
    ∙ written_number U bound P write written all p (to z) (p (to z) (own_in z (within.1 z i)))))
    ∙ sent_places T G U H h all up y within.0 (λ z i. own_in z (within.1 z i)) in
    let above : T.Item (suc zero) → List ℕ = λ y. places_in U zero all (h.to (suc zero) y) in
    ap sort_all (ranks_of_over T G first k x g)
    ∙ sort_over (over T) (places_in T zero own) k x (map first own)
    ∙ (λ t. sorted t ∷ sort_all (ranks_of_sent (over T) (places_in T zero own) above number k x one t))
    ∙ ap (λ (ranks : List Elements). map write all ∷ ranks)
    (ranks_sent k (over T) (over_sets T G) (over U) (over_sets U H) (over_sending T G U H h) (length all)
    (Within U H all) (places_in U zero all) (places_written U H all up) x g
    (over_within U H k (h.to (suc k) x) (h.good (suc k) x g) all (λ z i. i)))
    ∙ sym (ranks_of_over U H write k (h.to (suc k) x) (h.good (suc k) x g))

-- ---- the ranks tell the item

pub ranks_apart : (k : ℕ) (T : Levels) (G : Sets T) (bound : ℕ) (P : T.Item zero → Type 0)
    (write : T.Item zero → List ℕ) → Written T bound P write → (x y : T.Item k) → G.Good k x → G.Good k y
    → ((z : T.Item zero) → Mem z (lowest_in T k x) → P z) → ((z : T.Item zero) → Mem z (lowest_in T k y) → P z)
    → ranks_of T write k x ≡ ranks_of T write k y → x ≡ y
unfolding ranks_of lowest_in
ranks_apart zero T G bound P write written x y g h p q e =
    written_apart T bound P write written x y (p x (here refl)) (q y (here refl))
    (ap (λ (ranks : List Elements). get_or (get_or ranks 0 []) 0 []) e)
ranks_apart (suc k) T G bound P write written x y g h p q e =
    let own = lowest_in T (suc k) x in
    let other = lowest_in T (suc k) y in
    let both = sym (ranks_of_over T G write k x g) ∙ e ∙ ranks_of_over T G write k y h in
    let same : own ≡ other = map_apart write P (written_apart T bound P write written) own other p q
    (ap (λ (ranks : List Elements). get_or ranks 0 []) both) in
    let up = lowest_in_ascends T G (suc k) x g in
    let rest : ranks_of (over T) (places_in T zero own) k x ≡ ranks_of (over T) (places_in T zero own) k y =
    ap (drop 1) both ∙ ap (λ (all : List (T.Item zero)). ranks_of (over T) (places_in T zero all) k y) (sym same) in
    ranks_apart k (over T) (over_sets T G) (length own) (Within T G own) (places_in T zero own)
    (places_written T G own up) x y g h (over_within T G k x g own (λ z i. i))
    (over_within T G k y h own (λ z i. subst (λ (l : List (T.Item zero)). Mem z l) (sym same) i)) rest
