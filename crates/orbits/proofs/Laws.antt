-- The steps of the code over what the workspace holds: images gathered, an orbit opened. Leans on Workspace, on the
-- sorted sets and on numbers in bytes.
use mathlib.Core.Path.{◌≡◌, refl, sym, ap, subst, ◌∙◌}
use mathlib.Core.Bool.{true, false}
use mathlib.Core.List.{List, [], ◌∷◌, ◌++◌}
use mathlib.Core.Logic.{inl}
use Prim.Native.Nat.{ℕ, ◌+◌, ◌*◌, ◌-◌, ◌^◌, ◌≤◌, ◌<◌}
use native.Mathlib.Omega.{arith}
use native.Mathlib.Numerals.{add-one}
use lib.ListN.{length, take, drop, length-append, length-drop}
use lib.Seq.{length-take-le, take_at, drop_at}
use lib.Ieee.{Float}
use Rattle.definitions.specs.Job.{number_at}
use Rattle.definitions.specs.Vectors.{Vec}
use Rattle.definitions.specs.Subspace.{Subspace, from_points, is_hyperplane}
use Rattle.definitions.specs.Orbits.{Row, set_image, points_near}
use Rattle.laws.specs.Parts.{rows, map_rows_more}
use Rattle.laws.specs.Sets.{set_number, vertices_of}
use Rattle.words.specs.Words.{words, put, put_length, words_take, words_length, take_put, drop_put, number_at_put}
use Rattle.words.specs.Words.{number_at_put_off}
use Rattle.sorted.specs.Ascending.{union}
use Rattle.sorted.specs.Gathering.{added, Gathering, gathering_none, ascending_added}
use Rattle.sorted.specs.Merging.{New, Merged}
use Rattle.rows.specs.Rows.{rows_in, row_at}
use Rattle.orbits.specs.Numbers.{image_numbers, may_open, near_number, opens_orbit}
use Rattle.orbits.specs.Workspace.{seen_in, orbits_in, OrbitsRoom, Opened, orbits_length, orbits_front}
use Rattle.std.specs.Prelude.{Ok, Err}
use Rattle.refusals.specs.declared.Refusal.TheVariants.{Orbits}

-- the sets seen, in the part that is lent
pub seen_part : (known : ℕ) (ws : List ℕ) → 2048 + 4 * known ≤ length ws
    → words 4 (take (length ws - 2048) (drop 2048 ws)) known ≡ seen_in known ws
unfolding seen_in
seen_part known ws h = words_take 4 (drop 2048 ws) (length ws - 2048) known (omega arith)

-- ---- images gathered

pub images_none : (l : List ℕ) (n set : ℕ) (s : List ℕ) → Gathering l (image_numbers n set (rows_in n 0 s)) []
unfolding image_numbers rows_in rows
images_none l n set s = gathering_none l

pub images_more : (n set i : ℕ) (s : List ℕ) → image_numbers n set (rows_in n (i + 1) s)
    ≡ image_numbers n set (rows_in n i s) ++ (set_number (set_image (vertices_of n set) (row_at n i s)) ∷ [])
unfolding image_numbers rows_in row_at
images_more n set i s = map_rows_more (λ (row : Row). set_number (set_image (vertices_of n set) row)) 32 n i s

-- ---- an orbit opened

pub opened_none : (bound known count : ℕ) (ws : List ℕ) (set : ℕ) (images : List ℕ) → OrbitsRoom bound known count ws
    → count ≡ bound → Opened bound known count ws set images (Err Orbits) ws
opened_none bound known count ws set images room e = record {
  room = (known, (count, room));
  reached =
      λ seen orbits h. let n : length orbits ≡ count = ap length (sym h.orbits_are) ∙ orbits_length ws count in
      (refl, omega (arith, length-append orbits ((set, length (added seen images) - length seen) ∷ [])));
}

module _ (bound known count : ℕ) (ws : List ℕ) (set : ℕ) (images new : List ℕ)
    (room : OrbitsRoom bound known count ws) (few : length new ≤ 120) (small : set < 256 ^ 4)
    (free : count < bound) where
  abbrev pub first : List ℕ
  first = put 4 ws (8 * count) set

  abbrev pub both : List ℕ
  both = put 4 first (8 * count + 4) (length new)

  both_long : length both ≡ length ws
  both_long = put_length 4 first (8 * count + 4) (length new) ∙ put_length 4 ws (8 * count) set

  both_behind : drop 2048 both ≡ drop 2048 ws
  both_behind =
      drop_put 4 first (8 * count + 4) (length new) 2048 (omega (arith, room.bound_fits))
      ∙ drop_put 4 ws (8 * count) set 2048 (omega (arith, room.bound_fits))

  both_front : take (8 * count) both ≡ take (8 * count) ws
  both_front =
      take_put 4 first (8 * count + 4) (length new) (8 * count) (omega arith)
      ∙ take_put 4 ws (8 * count) set (8 * count) (omega arith)

  both_orbits : orbits_in both (count + 1) ≡ orbits_in ws count ++ ((set, length new) ∷ [])
  unfolding orbits_in
  both_orbits =
      let before : orbits_in both count ≡ orbits_in ws count = sym (orbits_front both (8 * count) count (omega arith))
      ∙ (ap (λ (l : List ℕ). orbits_in l count) both_front ∙ orbits_front ws (8 * count) count (omega arith)) in
      let long = put_length 4 ws (8 * count) set in
      let a : number_at both (8 * count) 4
      ≡ set = number_at_put_off 4 first (8 * count + 4) (length new) (8 * count) 4 (inl (omega arith))
      ∙ number_at_put 4 ws (8 * count) set (omega (arith, room.long, room.bound_fits)) small in
      let b : number_at both (8 * count + 4) 4 ≡ length new = number_at_put 4 first (8 * count + 4) (length new)
      (omega (arith, room.long, room.bound_fits)) (omega arith) in
      ap (orbits_in both) (add-one count) ∙ (rw (before, a, b) refl)

  seen_same : words 4 (take (length both - 2048) (drop 2048 both)) known ≡ seen_in known ws
  unfolding seen_in
  seen_same =
      let e = both_long in
      seen_part known both (omega (arith, room.long, room.known_fits, room.bound_fits))
      ∙ ap (λ (l : List ℕ). words 4 l known) both_behind

  -- the part that is lent holds the sets seen, and those gathered are new to it
  pub new_sets : (w₁ w₂ : List ℕ) → w₁ ≡ put 4 ws (8 * count) set → w₂ ≡ put 4 w₁ (8 * count + 4) (length new)
      → Gathering (seen_in known ws) images new
      → New (words 4 (take (length w₂ - 2048) (drop 2048 w₂)) known) new
  new_sets w₁ w₂ e f gather =
      let same : w₂ ≡ both = f ∙ ap (λ (l : List ℕ). put 4 l (8 * count + 4) (length new)) e in
      subst (λ (w : List ℕ). New (words 4 (take (length w - 2048) (drop 2048 w)) known) new) (sym same)
      (record { old = rw seen_same room.ascends; ascends = gather.ascends; fresh = rw seen_same gather.fresh })

  module _ (part : List ℕ) (merged : Merged (take (length both - 2048) (drop 2048 both)) known new part)
      (gather : Gathering (seen_in known ws) images new) where
    abbrev pub after : List ℕ
    after = take 2048 both ++ (part ++ drop (length both - 2048) (drop 2048 both))

    part_long : length part ≡ length ws - 2048
    part_long =
        let e = both_long in
        merged.long ∙ (length-take-le (length both - 2048) (drop 2048 both) (omega (arith, length-drop 2048 both))
        ∙ (omega arith))

    after_behind : drop 2048 after ≡ part ++ drop (length both - 2048) (drop 2048 both)
    after_behind =
        let e = both_long in
        drop_at (take 2048 both) (part ++ drop (length both - 2048) (drop 2048 both)) 2048
        (length-take-le 2048 both (omega (arith, room.long)))

    now_seen : seen_in (known + length new) after ≡ added (seen_in known ws) images
    unfolding seen_in
    now_seen =
        let front : take (length part) (part ++ drop (length both - 2048) (drop 2048 both))
        ≡ part = take_at part _ (length part) refl in
        let fits : 4 * (known + length new)
        ≤ length part = omega (arith, part_long, room.long, room.known_fits, room.bound_fits) in
        ap (λ (l : List ℕ). words 4 l (known + length new)) after_behind
        ∙ (sym
        (words_take 4 (part ++ drop (length both - 2048) (drop 2048 both)) (length part) (known + length new) fits)
        ∙ (ap (λ (l : List ℕ). words 4 l (known + length new)) front
        ∙ (merged.numbers
        ∙ (ap (λ (l : List ℕ). union l new) seen_same ∙ gather.whole))))

    now_orbits : orbits_in after (count + 1) ≡ orbits_in ws count ++ ((set, length new) ∷ [])
    now_orbits =
        let e = both_long in
        let h : 8 * (count + 1) ≤ 2048 = omega (arith, room.bound_fits) in
        let same : take 2048 after ≡ take 2048 both =
        take_at (take 2048 both) _ 2048 (length-take-le 2048 both (omega (arith, room.long))) in
        sym (orbits_front after 2048 (count + 1) h)
        ∙ (ap (λ (l : List ℕ). orbits_in l (count + 1)) same ∙ (orbits_front both 2048 (count + 1) h ∙ both_orbits))

    grown : length (added (seen_in known ws) images) ≡ known + length new
    unfolding seen_in
    grown = ap length (sym now_seen) ∙ words_length 4 (drop 2048 after) (known + length new)

    after_long : length after ≡ length ws
    after_long =
        let e = both_long in
        let l = length-take-le 2048 both (omega (arith, room.long)) in
        let d : length (drop (length both - 2048) (drop 2048 both))
        ≡ 0 = length-drop (length both - 2048) (drop 2048 both) ∙ (omega (arith, length-drop 2048 both)) in
        length-append (take 2048 both) _
        ∙ (omega (arith, length-append part (drop (length both - 2048) (drop 2048 both)), part_long, room.long))

    pub opened_one : Opened bound known count ws set images (Ok (record {
      known = known + length new;
      count = count + 1;
    })) after
    unfolding seen_in
    opened_one = record {
      room = record {
        long = omega (arith, after_long, room.long);
        bound_fits = room.bound_fits;
        count_fits = omega arith;
        known_fits = omega (arith, room.known_fits);
        ascends = rw now_seen (ascending_added (seen_in known ws) images room.ascends);
      };
      reached = λ seen orbits h.
          let n : length seen ≡ known = ap length (sym h.seen_are) ∙ words_length 4 (drop 2048 ws) known in
          let m : length new ≡ length (added seen images) - length seen =
          omega (arith, grown, ap (λ (l : List ℕ). length (added l images)) h.seen_are) in
          record {
            seen_are = now_seen ∙ ap (λ (l : List ℕ). added l images) h.seen_are;
            orbits_are = now_orbits ∙ (rw (h.orbits_are, m) refl);
          };
    }

  pub opened_by : (w₁ w₂ part : List ℕ) → w₁ ≡ put 4 ws (8 * count) set → w₂ ≡ put 4 w₁ (8 * count + 4) (length new)
      → Merged (take (length w₂ - 2048) (drop 2048 w₂)) known new part
      → Gathering (seen_in known ws) images new
      → Opened bound known count ws set images (Ok (record {
        known = known + length new;
        count = count + 1;
      })) (take 2048 w₂ ++ (part ++ drop (length w₂ - 2048) (drop 2048 w₂)))
  opened_by w₁ w₂ part e f merged gather =
      let same : w₂ ≡ both = f ∙ ap (λ (l : List ℕ). put 4 l (8 * count + 4) (length new)) e in
      subst (λ (w : List ℕ). Merged (take (length w - 2048) (drop 2048 w)) known new part
      → Opened bound known count ws set images (Ok (record {
        known = known + length new;
        count = count + 1;
      })) (take 2048 w ++ (part ++ drop (length w - 2048) (drop 2048 w))))
      (sym same) (λ m. opened_one part m gather) merged

-- the part that is lent has room for the sets seen
pub lent_room : (known : ℕ) (ws : List ℕ) → 2048 + 4 * known ≤ length ws
    → 4 * known ≤ length (take (length ws - 2048) (drop 2048 ws))
lent_room known ws h =
    rw (length-take-le (length ws - 2048) (drop 2048 ws) (omega (arith, length-drop 2048 ws))) (omega arith)

-- ---- one tuple

module _ (tolerance : Float) (most : ℕ) (flat : List Vec) (rows : List Row) (seen : List ℕ) (points : List Vec) where
  pub no_plane : is_hyperplane (from_points tolerance points) ≡ false
      → opens_orbit tolerance most flat rows seen points ≡ false
  unfolding opens_orbit
  no_plane e = rw e refl

  pub passed_over : is_hyperplane (from_points tolerance points) ≡ true
      → may_open (length flat) most seen (near_number tolerance most flat rows points) ≡ false
      → opens_orbit tolerance most flat rows seen points ≡ false
  unfolding opens_orbit
  passed_over e f = rw (e, f) refl

  pub opens_now : is_hyperplane (from_points tolerance points) ≡ true
      → may_open (length flat) most seen (near_number tolerance most flat rows points) ≡ true
      → opens_orbit tolerance most flat rows seen points ≡ true
  unfolding opens_orbit
  opens_now e f = rw (e, f) refl

  pub near_is : (set : ℕ) (plane : Subspace) → plane ≡ from_points tolerance points
      → set ≡ set_number (points_near tolerance plane flat 0) → set ≡ near_number tolerance most flat rows points
  unfolding near_number
  near_is set plane e f = f ∙ ap (λ (s : Subspace). set_number (points_near tolerance s flat 0)) e
