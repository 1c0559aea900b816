-- What the proofs of the functions cite: a field that may be absent, a float that was read, and the room that a job
-- of its exact length has for each field. Assumes nothing.
use mathlib.Core.Path.{◌≡◌, refl, sym, ap, ◌∙◌}
use mathlib.Core.Bool.{Bool, true, false, cond}
use mathlib.Core.List.{List, [], ◌∷◌, ◌++◌}
use Prim.Native.Nat.{ℕ, ◌+◌, ◌-◌, ◌*◌, ◌≤◌, ◌<◌}
use native.Mathlib.Omega.{arith}
use lib.Dec.{leb}
use lib.ListN.{length, get_or, take, drop, length-drop, length-map}
use lib.Seq.{paste, length-paste, length-take-le, take_all, sets, sets-eq}
use lib.Ieee.{Float, nan, inf, fin}
use Rattle.definitions.specs.Job.{Bytes, tolerance1, flag_set, present, float_at, floats_at, vectors_at, number_at}
use Rattle.definitions.specs.Job.{read_job, plane_of}
use Rattle.words.specs.Floats.{read_of}
use Rattle.std.specs.Prelude.{Option, Some, None, is_some, IfSome}
use Rattle.std.specs.Option.{unwrap_or}
use Rattle.load.specs.declared.Header.{Header}
use Rattle.load.specs.declared.Places.{Places}
use Rattle.load.specs.Places.{header_of, places_of, Counted, Exact}
use Rattle.load.specs.declared.Fields.{Fields}
use Rattle.rows.specs.Rows.{rows_in, written_rows, written_more}
use Rattle.load.specs.Meaning.{fields_of, rows_at, Loadable}
use Rattle.definitions.specs.Lists.{count_from}
use Rattle.definitions.specs.Vectors.{Vec}
use Rattle.definitions.specs.Subspace.{Subspace}
use Rattle.space.specs.declared.Subspace.{Subspace as StoredSubspace}
use Rattle.space.specs.declared.Points.{Points}
use Rattle.space.specs.Meaning.{subspace_of, HoldsSubspace, point_alone, with_vector, HoldsPoints}
use Rattle.laws.specs.Lists.{count_length}
use Rattle.laws.specs.Tests.{spaced, spaced_more, rows_paste}
use Rattle.laws.specs.Parts.{rows, length_rows}

-- ---- fields that may be absent

module _ {A : Type 0} (there : Bool) (field : A) (r : Option A) where
  -- what is read only where the field is there
  pub present_read : {P : A → Type 0} → is_some r ≡ there → IfSome r P → ((x : A) → P x → x ≡ field)
      → r ≡ present there field
  unfolding present
  present_read {P} e h f = go r h ∙ ap (λ (b : Bool). present b field) e
    where
      go : (o : Option A) → IfSome o P → o ≡ present (is_some o) field
      go (Some x) h = ap Some (f x h)
      go None h = refl

  -- and what stands for it elsewhere
  pub instead_read : (instead : A) → r ≡ present there field → unwrap_or r instead ≡ cond there field instead
  unfolding present
  instead_read instead e = rw e (go there)
    where
      go : (b : Bool) → unwrap_or (present b field) instead ≡ cond b field instead
      go true = refl
      go false = refl

-- ---- floats

pub value_read : (y : Float) → unwrap_or (read_of y) nan ≡ y
unfolding read_of
value_read nan = refl
value_read (inf s) = refl
value_read (fin s m d) = refl

-- ---- room

-- where each field lies in a job of its exact length
pub record Fitting (bytes : Bytes) (h : Header) (p : Places) : Type 0 where
  pub counted : Counted h
  pub min : 19 ≤ length bytes
  pub max : p.max + 8 ≤ length bytes
  pub limit : p.limit + 4 ≤ length bytes
  pub tolerance : p.tolerance + 8 ≤ length bytes
  pub rule : p.rule < length bytes
  pub budget : p.budget + 4 ≤ length bytes

fitting_own : (bytes : Bytes) → Exact bytes → Fitting bytes (header_of bytes) (places_of (header_of bytes))
unfolding header_of places_of
fitting_own bytes k =
    let h = k.counted in
    let long = k.long in
    record {
      counted = h;
      min = omega arith;
      max = omega arith;
      limit = omega arith;
      tolerance = omega arith;
      rule = omega arith;
      budget = omega arith;
    }

pub fitting : (bytes : Bytes) (h : Header) (p : Places) → Exact bytes → h ≡ header_of bytes → p ≡ places_of h
    → Fitting bytes h p
fitting bytes h p k e q = rw (q, e) (fitting_own bytes k)

pub fields_are : (bytes : Bytes) (h : Header) (p : Places) (min max : Option Float) (entries : Option ℕ)
    (tolerance : Float) (rule budget : ℕ)
    → h ≡ header_of bytes → p ≡ places_of h
    → min ≡ (present (flag_set h.flags 1) (float_at bytes 11))
    → max ≡ (present (flag_set h.flags 2) (float_at bytes p.max))
    → entries ≡ (present (flag_set h.flags 4) (number_at bytes p.limit 4))
    → tolerance ≡ cond (leb 2 h.version) (float_at bytes p.tolerance) tolerance1
    → rule ≡ cond (leb 3 h.version) (get_or bytes p.rule 0) 1
    → budget ≡ number_at bytes p.budget 4
    → ◌≡◌ {A = Fields}
    record {
      rank = h.rank;
      d = h.d;
      n = h.n;
      count = h.count;
      limits = record { shortest = min; longest = max };
      entries = entries;
      tolerance = tolerance;
      rule = rule;
      budget = budget;
      offset = p.offset;
      basis = p.basis;
      points = p.points;
      rows = p.rows;
    }
    (fields_of bytes)
unfolding fields_of read_job header_of places_of
fields_are bytes h p min max entries tolerance rule budget e q a b c t u d = rw (a, b, c, t, u, d, q, e) refl

-- ---- what grows by one

pub floats_more : (bytes : Bytes) (at i : ℕ)
    → floats_at bytes at (i + 1) ≡ floats_at bytes at i ++ (float_at bytes (at + 8 * i) ∷ [])
unfolding floats_at spaced
floats_more bytes at i = spaced_more (float_at bytes) 8 at i

pub floats_length : (bytes : Bytes) (at many : ℕ) → length (floats_at bytes at many) ≡ many
unfolding floats_at
floats_length bytes at many = length-map (count_from 0 many) _ ∙ count_length 0 many

pub vectors_more : (bytes : Bytes) (at d i : ℕ)
    → vectors_at bytes at d (i + 1) ≡ vectors_at bytes at d i ++ (floats_at bytes (at + 8 * d * i) d ∷ [])
unfolding vectors_at spaced
vectors_more bytes at d i = spaced_more (λ (p : ℕ). floats_at bytes p d) (8 * d) at i

pub rows_more : (bytes : Bytes) (at n i : ℕ)
    → rows_at bytes at n (i + 1) ≡ rows_at bytes at n i ++ (take n (drop (at + n * i) bytes) ∷ [])
unfolding rows_at spaced
rows_more bytes at n i = spaced_more (λ (p : ℕ). take n (drop p bytes)) n at i

-- ---- the plane, vector by vector

abbrev pub plane_to : Bytes → Vec → ℕ → ℕ → ℕ → Subspace
plane_to bytes offset at d j = record { offset = offset; basis = vectors_at bytes at d j }

pub offset_alone : (r : StoredSubspace) (v : Vec) → HoldsSubspace r (point_alone v) → (subspace_of r).offset ≡ v
unfolding point_alone
offset_alone r v h = ap (λ (s : Subspace). s.offset) h.means

pub plane_start : (r : StoredSubspace) (v : Vec) (bytes : Bytes) (at d : ℕ) → HoldsSubspace r (point_alone v)
    → HoldsSubspace r (plane_to bytes (subspace_of r).offset at d 0)
unfolding point_alone vectors_at count_from
plane_start r v bytes at d h = rw (offset_alone r v h) h

pub plane_turn : (r : StoredSubspace) (s : Subspace) (v offset : Vec) (bytes : Bytes) (at d j : ℕ)
    → HoldsSubspace r (with_vector s v) → s ≡ plane_to bytes offset at d j
    → v ≡ floats_at bytes (at + 8 * d * j) d → HoldsSubspace r (plane_to bytes offset at d (j + 1))
unfolding with_vector
plane_turn r s v offset bytes at d j h e g = rw (vectors_more bytes at d j) (rw (e, g) at h)

pub plane_end : (r : StoredSubspace) (offset : Vec) (bytes : Bytes) (f : Fields) (j : ℕ)
    → HoldsSubspace r (plane_to bytes offset f.basis f.d j)
    → offset ≡ floats_at bytes f.offset f.d → j ≡ f.rank - 1 → Loadable bytes f
    → HoldsSubspace r (plane_of (read_job bytes))
unfolding plane_of
plane_end r offset bytes f j h e g k = rw (k.offset_is, k.basis_is) (rw (e, g) at h)

-- ---- the points, one by one

pub points_turn : (r : Points) (d : ℕ) (ps : List Vec) (v : Vec) (bytes : Bytes) (at d' i : ℕ)
    → HoldsPoints r d' (ps ++ (v ∷ [])) → d' ≡ d → ps ≡ vectors_at bytes at d i
    → v ≡ floats_at bytes (at + 8 * d * i) d → HoldsPoints r d (vectors_at bytes at d (i + 1))
points_turn r d ps v bytes at d' i h e g k = rw (vectors_more bytes at d i) (rw (e, g, k) at h)

-- ---- the rows, one by one

-- row i as it is lent, from a place on
abbrev lent : Bytes → ℕ → ℕ → Bytes
lent bytes from n = take (from + n - from) (drop from bytes)

lent_is : (bytes : Bytes) (from n : ℕ) → lent bytes from n ≡ take n (drop from bytes)
lent_is bytes from n = let e : from + n - from ≡ n = omega arith in ap (λ (k : ℕ). take k (drop from bytes)) e

pub lent_length : (bytes : Bytes) (from n : ℕ) → from + n ≤ length bytes → length (lent bytes from n) ≡ n
lent_length bytes from n h =
    ap length (lent_is bytes from n) ∙ length-take-le n (drop from bytes) (rw length-drop (omega arith))

-- what is copied is written number by number
copied_sets : (l row : Bytes) (at n : ℕ) → length row ≡ n → at + n ≤ length l → paste l at row n ≡ sets l at row
copied_sets l row at n long fits =
    rw (← long, take_all (length row) row (omega arith)) (sym (sets-eq row l at (omega arith)))

-- a row was copied: the rows in the region are one more
pub row_copied : (region bytes : Bytes) (at n i : ℕ) (after : Bytes) → n ≤ 32 → 32 * i + 32 ≤ length region
    → at + n * i + n ≤ length bytes
    → after ≡ paste region (32 * i) (lent bytes (at + n * i) n) (length (lent bytes (at + n * i) n))
    → rows_in n i region ≡ rows_at bytes at n i → (before : Bytes)
    → region ≡ written_rows (rows_at bytes at n i) 0 before
    → (length after ≡ length region) × (rows_in n (i + 1) after ≡ rows_at bytes at n (i + 1))
    × (after ≡ written_rows (rows_at bytes at n (i + 1)) 0 before)
unfolding rows_in
row_copied region bytes at n i after h fits k e held before since =
    let from = at + n * i in
    let row = take n (drop from bytes) in
    let long : length row ≡ n = length-take-le n (drop from bytes) (rw length-drop (omega arith)) in
    let same : after ≡ paste region (32 * i) row n = e
    ∙ (ap (paste region (32 * i) (lent bytes from n)) (lent_length bytes from n k)
    ∙ ap (λ (l : Bytes). paste region (32 * i) l n) (lent_is bytes from n)) in
    let count : length (rows_at bytes at n i) ≡ i = ap length (sym held) ∙ length_rows 32 n i region in
    let stored : paste region (32 * i) row n
    ≡ sets region (32 * i) row = copied_sets region row (32 * i) n long (omega arith) in
    let place : 32 * (0 + length (rows_at bytes at n i)) ≡ 32 * i = omega arith in
    let one_more = rows_paste 32 n i region row h (omega arith) (omega arith) in (
      ap length same ∙ length-paste region (32 * i) row n (omega arith) (omega arith),
      ap (rows 32 n (i + 1)) same ∙ (one_more ∙ rw (held, take_all n row (omega arith), rows_more bytes at n i) refl),
      same ∙ (stored
          ∙ rw (rows_more bytes at n i, written_more (rows_at bytes at n i) row 0 before, ← since, place) refl),
    )
