-- Theorems on the definitions of specs/Covered.
use Rattle.std.specs.Prelude.{◌≡◌, Bool, not, ◌||◌, T, leb, eqb, get_or, Float}
use Rattle.std.proofs.Math.Path.{refl, ap, fun_ext}
use Rattle.std.proofs.Common.{◌∙◌, eqb→eq}
use Rattle.std.proofs.Math.Bool.{true, false, cond}
use mathlib.Core.List.{List, [], ◌∷◌, ◌++◌, map, flat_map}
use Prim.Native.Nat.{ℕ, zero, suc}
use Rattle.std.proofs.Math.Dec.{nleb→lt}
use Rattle.std.proofs.Math.ListN.{length}
use Rattle.std.specs.Float.Ieee.{binary64, div, lt}
use Rattle.definitions.specs.Lists.{Pair, count_from}
use Rattle.definitions.specs.Outcome.{Outcome, answered, and_then, refuse_if}
use Rattle.definitions.specs.Vectors.{Vec, norm, normalised, minus}
use Rattle.definitions.specs.Subspace.{Subspace, residual, distance, add_point, add_points, from_points}
use Rattle.definitions.specs.Orbits.{Row, Limits, Orbit, point_at, vertex_openers, too_short, too_long, breaks_limit}
use Rattle.definitions.specs.Orbits.{pair_openers, pairs_from, tuples, points_near, most_vertices, hyperplanes}
use Rattle.definitions.specs.Orbits.{hyperplane_orbits}
use Rattle.definitions.specs.Recursion.{Rules, Answer, Call, Inner, call_on_set, inner_call, rows_within}
use Rattle.definitions.specs.Faceting.{plain_way, Prepared, orbits_of, prepare_from, prepare_with, prepare, answer_from}
use Rattle.definitions.specs.Faceting.{faceting}
use Rattle.bounds.specs.Sizes.{Each}
use Rattle.bounds.specs.Fits.{AddTakes, at_first, behind, FitTakes, fitting}
use Rattle.bounds.specs.Calls.{Takes, in_length, in_fit, in_distance, Occurs, inner, flattened, chosen, through}
use Rattle.bounds.specs.AnyNorm.{normalised_by, distance_by, add_point_by, add_points_by, from_points_by}
use Rattle.bounds.specs.AnyNorm.{breaks_limit_by, points_near_by, hyperplanes_by, hyperplane_orbits_by, inner_call_by}
use Rattle.bounds.specs.AnyNorm.{prepare_by, faceting_by}
use Rattle.bounds.specs.Covered.{Agree, with_tuple}

-- what holds at every place holds of every item
each_of_places : {A : Type 0} (P : A → Type 0) (xs : List A) (other : A) → ((i : ℕ) → P (get_or xs i other)) → Each P xs
each_of_places P [] other h = tt
each_of_places P (x ∷ xs) other h = (h 0, each_of_places P xs other (λ i. h (suc i)))

module _ (other : Vec → Float) where
  -- ---- fits

  add_point_same : (tolerance : Float) (s : Subspace) (p : Vec) → other (residual s p) ≡ norm (residual s p)
      → add_point_by other tolerance s p ≡ add_point tolerance s p
  unfolding add_point_by add_point normalised_by normalised
  add_point_same tolerance s p e =
      ap (λ (size : Float). cond (lt tolerance size) (record {
        offset = s.offset;
        basis = s.basis ++ (map (λ (x : Float). div binary64 x size) (residual s p) ∷ []);
      }) s) e

  add_points_same : (tolerance : Float) (s : Subspace) (ps : List Vec)
      → ((v : Vec) → AddTakes tolerance s ps v → other v ≡ norm v)
      → add_points_by other tolerance s ps ≡ add_points tolerance s ps
  unfolding add_points_by add_points
  add_points_same tolerance s [] h = refl
  add_points_same tolerance s (p ∷ ps) h =
      go (leb (length s.offset) (length s.basis))
      (λ t.
      let open-still = nleb→lt (length s.offset) (length s.basis) t in
      ap (λ (z : Subspace). add_points_by other tolerance z ps)
      (add_point_same tolerance s p (h (residual s p) (at_first open-still)))
      ∙ add_points_same tolerance (add_point tolerance s p) ps (λ v k. h v (behind open-still k)))
    where
      go : (b : Bool) → (T (not b) → add_points_by other tolerance (add_point_by other tolerance s p) ps
          ≡ add_points tolerance (add_point tolerance s p) ps)
          → cond b s (add_points_by other tolerance (add_point_by other tolerance s p) ps)
          ≡ cond b s (add_points tolerance (add_point tolerance s p) ps)
      go true g = refl
      go false g = g tt

  fit_same : (tolerance : Float) (ps : List Vec) → ((v : Vec) → FitTakes tolerance ps v → other v ≡ norm v)
      → from_points_by other tolerance ps ≡ from_points tolerance ps
  unfolding from_points_by from_points
  fit_same tolerance [] h = refl
  fit_same tolerance (p ∷ ps) h =
      add_points_same tolerance (record { offset = p; basis = [] }) ps (λ v k. h v (fitting k))

  -- ---- orbits

  near_same : (tolerance : Float) (s : Subspace) (ps : List Vec) (v : ℕ)
      → Each (λ (p : Vec). other (residual s p) ≡ norm (residual s p)) ps
      → points_near_by other tolerance s ps v ≡ points_near tolerance s ps v
  unfolding points_near_by points_near distance_by distance
  near_same tolerance s [] v h = refl
  near_same tolerance s (p ∷ ps) v h =
      ap (λ (size : Float). cond (lt size tolerance) (v ∷ points_near_by other tolerance s ps (suc v))
      (points_near_by other tolerance s ps (suc v))) h.0
      ∙ ap (λ (rest : List ℕ). cond (lt (norm (residual s p)) tolerance) (v ∷ rest) rest)
      (near_same tolerance s ps (suc v) h.1)

  breaks_same : (tolerance : Float) (limits : Limits) (points : List Vec) (v w : ℕ)
      → other (minus (point_at points w) (point_at points v)) ≡ norm (minus (point_at points w) (point_at points v))
      → breaks_limit_by other tolerance limits points v w ≡ breaks_limit tolerance limits points v w
  unfolding breaks_limit_by breaks_limit
  breaks_same tolerance limits points v w e =
      ap (λ (size : Float). too_short tolerance limits.shortest size || too_long tolerance limits.longest size) e

  -- ---- one call

  module _ (tolerance : Float) (plane : Subspace) (points : List Vec)
      (agree : (v : Vec) → Takes tolerance plane points v → other v ≡ norm v) where
    through_same : (vertices : List ℕ)
        → from_points_by other tolerance (chosen plane points vertices) ≡ through tolerance plane points vertices
    unfolding through
    through_same vertices = fit_same tolerance (chosen plane points vertices) (λ v k. agree v (in_fit vertices k))

    sets_same : (vertices : List ℕ)
        → points_near_by other tolerance (through tolerance plane points vertices) (flattened plane points) 0
        ≡ points_near tolerance (through tolerance plane points vertices) (flattened plane points) 0
    unfolding point_at
    sets_same vertices =
        let s = through tolerance plane points vertices in
        near_same tolerance s (flattened plane points) 0
        (each_of_places (λ (p : Vec). other (residual s p) ≡ norm (residual s p)) (flattened plane points) [] (λ u.
        agree (residual s (point_at (flattened plane points) u)) (in_distance vertices u)))

    hyperplanes_same : (most : ℕ) (rows : List Row) (seen ts : List (List ℕ))
        → hyperplanes_by other tolerance most (flattened plane points) rows seen ts
        ≡ hyperplanes tolerance most (flattened plane points) rows seen ts
    unfolding hyperplanes_by hyperplanes chosen through
    hyperplanes_same most rows seen [] = refl
    hyperplanes_same most rows seen (tuple ∷ ts) =
        let flat = flattened plane points in
        let laterBy : List (List ℕ) → List Orbit = λ known. hyperplanes_by other tolerance most flat rows known ts in
        let s = through tolerance plane points tuple in
        ap (λ (z : Subspace). with_tuple most rows seen z (points_near_by other tolerance z flat 0) laterBy)
        (through_same tuple)
        ∙ ap (λ (set : List ℕ). with_tuple most rows seen s set laterBy) (sets_same tuple)
        ∙ ap (with_tuple most rows seen s (points_near tolerance s flat 0))
        (fun_ext (λ known. hyperplanes_same most rows known ts))

    orbits_same : (limits : Limits) (rule more : ℕ) (rows : List Row)
        → hyperplane_orbits_by other tolerance limits rule more points (flattened plane points) rows
        ≡ hyperplane_orbits tolerance limits rule more points (flattened plane points) rows
    unfolding hyperplane_orbits_by hyperplane_orbits
    orbits_same limits rule more rows =
        let n = length points in
        let breaks : breaks_limit_by other tolerance limits points ≡ breaks_limit tolerance limits points =
        fun_ext (λ v. fun_ext (λ w. breaks_same tolerance limits points v w
        (agree (minus (point_at points w) (point_at points v)) (in_length v w)))) in
        let pairs : (ℕ → ℕ → Bool) → List Pair = λ b.
        pair_openers (λ (p : Pair). b p.0 p.1) rows [] (pairs_from n (vertex_openers rows [] (count_from 0 n))) in
        ap (λ (b : ℕ → ℕ → Bool). hyperplanes_by other tolerance (most_vertices rule more n)
        (flattened plane points) rows [] (flat_map (tuples b n more) (pairs b))) breaks
        ∙ hyperplanes_same (most_vertices rule more n) rows [] (flat_map
        (tuples (breaks_limit tolerance limits points) n more) (pairs (breaks_limit tolerance limits points)))

  -- ---- every call

  module _ (rules : Rules) (top : ℕ) (outer : Subspace) (given : List Vec)
      (agree : Agree other rules.tolerance top outer given) where
    -- one orbit's call, if the calls with rank − 1 are alike wherever they occur
    inner_same : {depth more : ℕ} {plane : Subspace} {points : List Vec}
        (c : Occurs rules.tolerance top outer given depth (suc more) plane points) (call_by call : Call)
        → ((vertices : List ℕ) (rows : List Row) (budget : ℕ)
        → length (through rules.tolerance plane points vertices).basis ≡ suc more
        → call_by (through rules.tolerance plane points vertices) (chosen plane points vertices) rows budget
        ≡ call (through rules.tolerance plane points vertices) (chosen plane points vertices) rows budget)
        → (rows : List Row) (orbit : Orbit) (budget : ℕ)
        → inner_call_by other (suc more) rules call_by (flattened plane points) rows orbit budget
        ≡ inner_call (suc more) rules call (flattened plane points) rows orbit budget
    unfolding inner_call_by inner_call call_on_set chosen through refuse_if
    inner_same {more = more} {plane = plane} {points = points} c call_by call same rows orbit budget =
        let tolerance = rules.tolerance in
        let vertices = orbit.vertices in
        let s = through tolerance plane points vertices in
        let kept = rows_within vertices rows in
        let finished : Outcome Answer
        → Outcome Inner = λ o. and_then o (λ (a : Answer). answered (record { orbit = orbit; answer = a })) in
        ap (λ (z : Subspace). call_on_set (suc more) call_by rows orbit z (chosen plane points vertices) budget)
        (through_same tolerance plane points (λ v k. agree.at c k) vertices)
        ∙ go finished (call_by s (chosen plane points vertices) kept budget)
        (call s (chosen plane points vertices) kept budget) (eqb (length s.basis) (suc more))
        (λ t. same vertices kept budget (eqb→eq (length s.basis) (suc more) t))
      where
        go : (finished : Outcome Answer → Outcome Inner) (x y : Outcome Answer) (b : Bool) → (T b → x ≡ y)
            → refuse_if (not b) 14 (λ u. finished x) ≡ refuse_if (not b) 14 (λ u. finished y)
        go finished x y true e = ap finished (e tt)
        go finished x y false e = refl

    prepare_same : {depth more : ℕ} {plane : Subspace} {points : List Vec}
        (c : Occurs rules.tolerance top outer given depth (suc more) plane points) (call_by call : Call)
        → ((vertices : List ℕ) (rows : List Row) (budget : ℕ)
        → length (through rules.tolerance plane points vertices).basis ≡ suc more
        → call_by (through rules.tolerance plane points vertices) (chosen plane points vertices) rows budget
        ≡ call (through rules.tolerance plane points vertices) (chosen plane points vertices) rows budget)
        → (rows : List Row) (budget : ℕ)
        → prepare_by other more rules call_by plane points rows budget
        ≡ prepare more rules call plane points rows budget
    unfolding prepare_by prepare_with prepare orbits_of flattened
    prepare_same {more = more} {plane = plane} {points = points} c call_by call same rows budget =
        let flat = flattened plane points in
        let prepared : List Orbit → (Orbit → ℕ → Outcome Inner) → Outcome Prepared =
        λ orbits one. prepare_from plain_way orbits one more rules (length points) rows budget in
        ap (λ (orbits : List Orbit). prepared orbits (inner_call_by other (suc more) rules call_by flat rows))
        (orbits_same rules.tolerance plane points (λ v k. agree.at c k) rules.lengths rules.rule more rows)
        ∙ ap (prepared (hyperplane_orbits rules.tolerance rules.lengths rules.rule more points flat rows))
        (fun_ext (λ orbit. fun_ext (λ left. inner_same c call_by call same rows orbit left)))

    -- a call that occurs is the same with either norm
    pub call_same : (more : ℕ) {depth : ℕ} {plane : Subspace} {points : List Vec}
        → Occurs rules.tolerance top outer given depth more plane points → (rows : List Row) (budget : ℕ)
        → faceting_by other more rules plane points rows budget ≡ faceting more rules plane points rows budget
    unfolding faceting_by faceting
    call_same zero c rows budget = refl
    call_same (suc more) c rows budget =
        ap (answer_from rules)
        (prepare_same c (faceting_by other more rules) (faceting more rules)
        (λ vertices kept left e. call_same more (inner c vertices e) kept left) rows budget)
