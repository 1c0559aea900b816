-- The counts of a struct are those of what it means, its rows are the vectors of what it means, and two structs that
-- hold the same are one. Leans on Meaning, on Rows, and on the rows of the crate of laws.
use Rattle.std.specs.Prelude.{◌≡◌, List, [], ◌∷◌, ◌++◌, ℕ, zero, suc, ◌+◌, ◌*◌, ◌≤◌, ◌<◌, take, drop, Float, get_or}
use Rattle.std.proofs.Math.Path.{refl, sym, ap}
use Rattle.std.proofs.Common.{◌∙◌, subst, arith, length-drop, length-take-le}
use Rattle.std.proofs.Math.ListN.{length, length-map}
use Rattle.std.specs.Float.Ieee.{nan}
use Rattle.definitions.specs.Vectors.{Vec, dot, plus_times}
use Rattle.definitions.specs.Subspace.{Subspace, gains, project, residual, flatten}
use Rattle.definitions.specs.Orbits.{point_at}
use Rattle.laws.specs.Parts.{rows, length_rows, get_d_rows, set_five, set_five_is, rows_written}
use Rattle.vectors.specs.Meaning.{vector_of, five}
use Rattle.vectors.specs.Wholes.{five_means, minus_length, plus_times_length}
use Rattle.vectors.proofs.Wholes.{five_own}
use Rattle.space.specs.declared.Subspace.{Subspace as StoredSubspace}
use Rattle.space.specs.declared.Points.{Points}
use Rattle.space.specs.Rows.{row_long, rows_length, row_is, joined_length, row_joins}
use Rattle.space.specs.Fits.{in_rows, SubspaceFits, PointsFit}
use Rattle.std.proofs.Props.{props}
use Rattle.space.specs.Meaning.{subspace_of, HoldsSubspace, with_vector, points_of, HoldsPoints}

-- ---- a subspace

-- how long the arrays are
module _ (s : StoredSubspace) where
  pub offset_long : length s.offset ≡ 5
  offset_long = ap length s.fits.offset_is ∙ row_long s.d s.offset s.fits.d_fits

  pub basis_long : length s.basis ≡ 25
  basis_long =
      ap length s.fits.basis_is ∙ rows_length 25 s.d s.rank s.basis s.fits.d_fits (omega (arith, s.fits.rank_fits))

  -- how many numbers and vectors there are
  pub offset_length : length (subspace_of s).offset ≡ s.d
  unfolding subspace_of
  offset_length = length-take-le s.d s.offset (omega (arith, offset_long, s.fits.d_fits))

  pub basis_length : length (subspace_of s).basis ≡ s.rank
  unfolding subspace_of
  basis_length = length_rows 5 s.d s.rank s.basis

  pub basis_row : (j : ℕ) → j < s.rank → get_or (subspace_of s).basis j [] ≡ take s.d (drop (5 * j) s.basis)
  unfolding subspace_of
  basis_row j below = get_d_rows 5 s.d s.rank s.basis j below

  -- What a struct holds, from its meaning: the counts follow.
  pub holds_subspace : (meaning : Subspace) → subspace_of s ≡ meaning → HoldsSubspace s meaning
  holds_subspace meaning e = record {
    d_is = sym offset_length ∙ ap (λ (m : Subspace). length m.offset) e;
    rank_is = sym basis_length ∙ ap (λ (m : Subspace). length m.basis) e;
    means = e;
  }

  pub holds_own : HoldsSubspace s (subspace_of s)
  holds_own = holds_subspace (subspace_of s) refl

  -- A row that is written behind the basis is one vector more.
  module _ (v : List Float) (room : s.rank < 5) (long : length v ≡ 5) (own : v ≡ five (vector_of s.d v)) where
    vector_written : rows 5 s.d (s.rank + 1) (set_five s.basis (5 * s.rank) v nan)
        ≡ rows 5 s.d s.rank s.basis ++ (vector_of s.d v ∷ [])
    vector_written = rows_written s.d s.rank s.basis v nan s.fits.d_fits (omega (arith, basis_long)) long

    pub vector_fits : SubspaceFits s.offset (set_five s.basis (5 * s.rank) v nan) s.d (s.rank + 1)
    vector_fits = record {
      d_fits = s.fits.d_fits;
      rank_fits = omega arith;
      offset_is = s.fits.offset_is;
      basis_is =
          rw vector_written (set_five_is s.basis (5 * s.rank) v nan (omega (arith, basis_long)) long
          ∙ row_joins 25 s.rank (rows 5 s.d s.rank s.basis) s.basis v _
          (joined_length s.d s.rank s.basis s.fits.d_fits) long own s.fits.basis_is);
    }

    pub vector_joined : (t : StoredSubspace) → t.offset ≡ s.offset → t.basis ≡ set_five s.basis (5 * s.rank) v nan
        → t.d ≡ s.d → t.rank ≡ s.rank + 1 → subspace_of t ≡ with_vector (subspace_of s) (vector_of s.d v)
    unfolding subspace_of with_vector
    vector_joined t o b d r = rw (o, b, d, r, vector_written) refl

-- The struct is known from what it holds.
pub one_subspace : (s t : StoredSubspace) (meaning : Subspace) → HoldsSubspace s meaning → HoldsSubspace t meaning
    → s ≡ t
unfolding subspace_of
one_subspace s t meaning h g =
    let same : subspace_of s ≡ subspace_of t = h.means ∙ sym g.means in
    let offset : s.offset ≡ t.offset = s.fits.offset_is
    ∙ (ap (λ (m : Subspace). five m.offset) same ∙ sym t.fits.offset_is) in
    let basis : s.basis ≡ t.basis = s.fits.basis_is
    ∙ (ap (λ (m : Subspace). in_rows 25 m.basis) same ∙ sym t.fits.basis_is) in
    let d : s.d ≡ t.d = h.d_is ∙ sym g.d_is in
    let rank : s.rank ≡ t.rank = h.rank_is ∙ sym g.rank_is in
    same_fields s.offset s.basis s.d s.rank t.offset t.basis t.d t.rank offset basis d rank s.fits t.fits
  where
    same_fields : (o b : List Float) (d r : ℕ) (o' b' : List Float) (d' r' : ℕ) → o ≡ o' → b ≡ b' → d ≡ d' → r ≡ r'
        → (f : SubspaceFits o b d r) (f' : SubspaceFits o' b' d' r')
        → ◌≡◌ {A = StoredSubspace} (record {
          offset = o;
          basis = b;
          d = d;
          rank = r;
          fits = f;
        }) (record { offset = o'; basis = b'; d = d'; rank = r'; fits = f' })
    same_fields o b d r o' b' d' r' eo eb ed er =
        subst (λ (x : List Float). (f : SubspaceFits o b d r) (f' : SubspaceFits x b' d' r')
        → ◌≡◌ {A = StoredSubspace} (record {
          offset = o;
          basis = b;
          d = d;
          rank = r;
          fits = f;
        }) (record { offset = x; basis = b'; d = d'; rank = r'; fits = f' })) eo
        (subst (λ (x : List Float). (f : SubspaceFits o b d r) (f' : SubspaceFits o x d' r')
        → ◌≡◌ {A = StoredSubspace} (record {
          offset = o;
          basis = b;
          d = d;
          rank = r;
          fits = f;
        }) (record { offset = o; basis = x; d = d'; rank = r'; fits = f' })) eb
        (subst (λ (x : ℕ). (f : SubspaceFits o b d r) (f' : SubspaceFits o b x r')
        → ◌≡◌ {A = StoredSubspace} (record {
          offset = o;
          basis = b;
          d = d;
          rank = r;
          fits = f;
        }) (record { offset = o; basis = b; d = x; rank = r'; fits = f' })) ed
        (subst (λ (x : ℕ). (f : SubspaceFits o b d r) (f' : SubspaceFits o b d x)
        → ◌≡◌ {A = StoredSubspace} (record {
          offset = o;
          basis = b;
          d = d;
          rank = r;
          fits = f;
        }) (record { offset = o; basis = b; d = d; rank = x; fits = f' })) er
        (λ f f'. ap (λ (g : SubspaceFits o b d r). record {
          offset = o;
          basis = b;
          d = d;
          rank = r;
          fits = g;
        }) (let one : IsProp (SubspaceFits o b d r) = Prim.hlevel props in one f f')))))

-- ---- how long the vectors of a subspace are

gains_length : (away : Vec) (d n : ℕ) (flat : List Float) (q : Vec) → d ≤ 5 → 5 * n ≤ length flat → length q ≡ d
    → length (gains away (rows 5 d n flat) q) ≡ d
unfolding gains rows
gains_length away d zero flat q few fits long = long
gains_length away d (suc n) flat q few fits long =
    let b = take d flat in
    let b-long : length b ≡ d = length-take-le d flat (omega arith) in
    gains_length away d n (drop 5 flat) (plus_times q b (dot away b)) few (omega (arith, length-drop 5 flat))
    (plus_times_length q b _ (omega arith) ∙ long)

module _ (s : StoredSubspace) (p : Vec) where
  pub project_length : length (project (subspace_of s) p) ≡ s.d
  unfolding project subspace_of
  project_length =
      gains_length _ s.d s.rank s.basis (take s.d s.offset) s.fits.d_fits
      (omega (arith, s.fits.rank_fits, basis_long s)) (offset_length s)

  pub residual_length : length p ≡ s.d → length (residual (subspace_of s) p) ≡ s.d
  unfolding residual
  residual_length long = minus_length p (project (subspace_of s) p) (long ∙ sym project_length) ∙ long

  pub flatten_length : length (flatten (subspace_of s) p) ≡ s.rank
  unfolding flatten
  flatten_length = length-map (subspace_of s).basis _ ∙ basis_length s

-- ---- points

module _ (p : Points) where
  pub at_long : length p.at ≡ 100
  at_long = ap length p.fits.at_is ∙ rows_length 100 p.d p.n p.at p.fits.d_fits (omega (arith, p.fits.n_fits))

  pub points_length : length (points_of p) ≡ p.n
  unfolding points_of
  points_length = length_rows 5 p.d p.n p.at

  pub holds_points : (d : ℕ) (points : List Vec) → p.d ≡ d → points_of p ≡ points → HoldsPoints p d points
  holds_points d points same e = record { d_is = same; n_is = sym points_length ∙ ap length e; means = e }

  -- A point has d numbers, and an array that holds it means it.
  module _ (i : ℕ) (below : i < p.n) where
    pub point_row : point_at (points_of p) i ≡ take p.d (drop (5 * i) p.at)
    unfolding point_at points_of
    point_row = get_d_rows 5 p.d p.n p.at i below

    pub point_length : length (point_at (points_of p) i) ≡ p.d
    point_length =
        rw point_row (length-take-le p.d (drop (5 * i) p.at)
        (omega (arith, length-drop (5 * i) p.at, at_long, p.fits.n_fits, p.fits.d_fits)))

    pub point_means : (r : List Float) → r ≡ five (point_at (points_of p) i)
        → vector_of p.d r ≡ point_at (points_of p) i
    point_means r is = five_means r (point_at (points_of p) i) p.d is point_length

    pub point_own : (r : List Float) → r ≡ five (point_at (points_of p) i) → r ≡ five (vector_of p.d r)
    point_own r is = five_own r (point_at (points_of p) i) p.d is point_length

    -- the five places of a point hold it
    pub point_places : take 5 (drop (5 * i) p.at) ≡ five (point_at (points_of p) i)
    point_places = row_is 100 p.d p.n p.at i p.fits.d_fits below p.fits.at_is ∙ ap five (sym point_row)

  -- A row that is written behind the points is one point more.
  module _ (row : List Float) (room : p.n < 20) (long : length row ≡ 5) (own : row ≡ five (vector_of p.d row)) where
    point_written : rows 5 p.d (p.n + 1) (set_five p.at (5 * p.n) row nan)
        ≡ rows 5 p.d p.n p.at ++ (vector_of p.d row ∷ [])
    point_written = rows_written p.d p.n p.at row nan p.fits.d_fits (omega (arith, at_long)) long

    pub point_fits : PointsFit (set_five p.at (5 * p.n) row nan) (p.n + 1) p.d
    point_fits = record {
      n_fits = omega arith;
      d_fits = p.fits.d_fits;
      at_is =
          rw point_written (set_five_is p.at (5 * p.n) row nan (omega (arith, at_long)) long ∙ row_joins 100 p.n
          (rows 5 p.d p.n p.at) p.at row _ (joined_length p.d p.n p.at p.fits.d_fits) long own p.fits.at_is);
    }

    pub point_joined : (q : Points) → q.at ≡ set_five p.at (5 * p.n) row nan → q.n ≡ p.n + 1 → q.d ≡ p.d
        → points_of q ≡ points_of p ++ (vector_of p.d row ∷ [])
    unfolding points_of
    point_joined q a n d = rw (a, n, d, point_written) refl

-- A row that is written behind the points is one point more, and the struct fits with it.
pub row_joined : (p : Points) (row : List Float) (room : p.n < 20) (long : length row ≡ 5)
    (own : row ≡ five (vector_of p.d row))
    → HoldsPoints
    (record { at = set_five p.at (5 * p.n) row nan; n = p.n + 1; d = p.d; fits = point_fits p row room long own })
    p.d (points_of p ++ (vector_of p.d row ∷ []))
row_joined p row room long own =
    let more : Points =
    record { at = set_five p.at (5 * p.n) row nan; n = p.n + 1; d = p.d; fits = point_fits p row room long own } in
    holds_points more p.d _ refl (point_joined p row room long own more refl refl refl)

-- One point joined those that a struct holds.
pub one_more : (p q : Points) (d : ℕ) (ps : List Vec) (row : List Float) (v : Vec) → HoldsPoints p d ps
    → vector_of d row ≡ v → HoldsPoints q p.d (points_of p ++ (vector_of p.d row ∷ []))
    → HoldsPoints q d (ps ++ (v ∷ []))
one_more p q d ps row v h e g =
    let joined : points_of p ++ (vector_of p.d row ∷ [])
    ≡ ps ++ (v ∷ []) = ap (λ (k : ℕ). points_of p ++ (vector_of k row ∷ [])) h.d_is
    ∙ (ap (λ (l : List Vec). l ++ (vector_of d row ∷ [])) h.means ∙ ap (λ (u : Vec). ps ++ (u ∷ [])) e) in
    holds_points q d _ (g.d_is ∙ h.d_is) (g.means ∙ joined)

-- The struct is known from what it holds.
pub one_points : (p q : Points) (d : ℕ) (points : List Vec) → HoldsPoints p d points → HoldsPoints q d points → p ≡ q
unfolding points_of
one_points p q d points h g =
    let same : points_of p ≡ points_of q = h.means ∙ sym g.means in
    let at : p.at ≡ q.at = p.fits.at_is ∙ (ap (in_rows 100) same ∙ sym q.fits.at_is) in
    let n : p.n ≡ q.n = h.n_is ∙ sym g.n_is in
    let d : p.d ≡ q.d = h.d_is ∙ sym g.d_is in
    same_fields p.at p.n p.d q.at q.n q.d at n d p.fits q.fits
  where
    same_fields : (a : List Float) (n d : ℕ) (a' : List Float) (n' d' : ℕ) → a ≡ a' → n ≡ n' → d ≡ d'
        → (f : PointsFit a n d) (f' : PointsFit a' n' d')
        → ◌≡◌ {A = Points} (record { at = a; n = n; d = d; fits = f }) (record { at = a'; n = n'; d = d'; fits = f' })
    same_fields a n d a' n' d' ea en ed =
        subst (λ (x : List Float). (f : PointsFit a n d) (f' : PointsFit x n' d') → ◌≡◌ {A = Points} (record {
          at = a;
          n = n;
          d = d;
          fits = f;
        }) (record { at = x; n = n'; d = d'; fits = f' })) ea
        (subst (λ (x : ℕ). (f : PointsFit a n d) (f' : PointsFit a x d') → ◌≡◌ {A = Points} (record {
          at = a;
          n = n;
          d = d;
          fits = f;
        }) (record { at = a; n = x; d = d'; fits = f' })) en
        (subst (λ (x : ℕ). (f : PointsFit a n d) (f' : PointsFit a n x) → ◌≡◌ {A = Points} (record {
          at = a;
          n = n;
          d = d;
          fits = f;
        }) (record { at = a; n = n; d = x; fits = f' })) ed
        (λ f f'. ap (λ (g : PointsFit a n d). record {
          at = a;
          n = n;
          d = d;
          fits = g;
        }) (let one : IsProp (PointsFit a n d) = Prim.hlevel props in one f f'))))
