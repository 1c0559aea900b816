-- A number of each tally, as one row of numbers: read at a tally, with one tally changed, and with one more.
use mathlib.Core.Path.{◌≡◌, refl, sym, ap, ◌∙◌}
use mathlib.Core.List.{List, [], ◌∷◌, ◌++◌, map, append_assoc}
use Prim.Native.Nat.{ℕ, suc, ◌+◌, ◌-◌, ◌/◌, ◌<◌}
use native.Mathlib.Omega.{arith}
use lib.ListN.{length, get_or, take, drop, set, replicate, length-map, length-set, length-append, get_or-append}
use Rattle.std.proofs.lemmas.List.{take-append-le, map-set, map-append, set-append_left}
use Rattle.std.proofs.Math.Seq.{set-append_seam, map-set_same}
use lib.Seq.{take_all}
use Rattle.laws.specs.Lists.{map_at_holds}
use Rattle.tallies.specs.Meaning.{column_in, images_in, sums_in, counted_in, listed_in}
use Rattle.tallies.specs.declared.Tally.{Tally}

module _ (f : Tally → ℕ) (tallies : List Tally) where
  pub column_at : (k : ℕ) (d : Tally) → k < length tallies → get_or (column_in f tallies) k 0 ≡ f (get_or tallies k d)
  column_at k d h =
      get_or-append (map f tallies) (replicate (256 - length tallies) 0) 0 k (omega (arith, length-map tallies f))
      ∙ map_at_holds f tallies k 0 d h

  pub column_set : (k : ℕ) (t : Tally) → k < length tallies
      → column_in f (set tallies k t) ≡ set (column_in f tallies) k (f t)
  column_set k t h =
      rw (length-set tallies k t, map-set f tallies k t)
      (sym (set-append_left (map f tallies) (replicate (256 - length tallies) 0) k (f t)
      (omega (arith, length-map tallies f))))

  pub column_same : (k : ℕ) (t d : Tally) → f t ≡ f (get_or tallies k d)
      → column_in f (set tallies k t) ≡ column_in f tallies
  column_same k t d e = rw (length-set tallies k t, map-set_same f tallies k t d e) refl

  pub column_more : (t : Tally) → length tallies < 256
      → column_in f (tallies ++ (t ∷ [])) ≡ set (column_in f tallies) (length tallies) (f t)
  column_more t h =
      sym (
      ap (λ (k : ℕ). set (map f tallies ++ replicate k 0) (length tallies) (f t)) one_less
      ∙ ap (λ (k : ℕ). set (map f tallies ++ (0 ∷ rest)) k (f t)) (sym (length-map tallies f))
      ∙ set-append_seam (map f tallies) 0 rest (f t)
      ∙ sym (ap (λ (l : List ℕ). l ++ rest) (map-append f tallies (t ∷ []))
      ∙ append_assoc (map f tallies) (f t ∷ []) rest)
      )
    where
      rest : List ℕ
      rest = replicate (256 - length (tallies ++ (t ∷ []))) 0

      one_less : 256 - length tallies ≡ suc (256 - length (tallies ++ (t ∷ [])))
      one_less = omega (arith, length-append tallies (t ∷ []))

same_counts : (marks : List ℕ) {known more many most : ℕ} {images others sums totals : List ℕ} → known ≡ more
    → many ≡ most → images ≡ others → sums ≡ totals
    → counted_in known many marks images sums ≡ counted_in more most marks others totals
same_counts marks a b c d = rw (a, b, c, d) refl

-- one tally more
pub listed_more : (known : ℕ) (marks : List ℕ) (tallies : List Tally) (t : Tally) → length tallies < 256
    → listed_in known marks (tallies ++ (t ∷ [])) ≡ counted_in known (length tallies + 1) marks
    (set (images_in tallies) (length tallies) t.images) (set (sums_in tallies) (length tallies) t.sum)
listed_more known marks tallies t h =
    same_counts marks refl (length-append tallies (t ∷ [])) (column_more (λ (t : Tally). t.images) tallies t h)
    (column_more (λ (t : Tally). t.sum) tallies t h)

-- as many tallies, and the same images
pub listed_again : (known more : ℕ) (marks : List ℕ) (tallies after : List Tally) → more ≡ known
    → length after ≡ length tallies → images_in after ≡ images_in tallies
    → listed_in more marks after ≡ counted_in known (length tallies) marks (images_in tallies) (sums_in after)
listed_again known more marks tallies after a b c = same_counts marks a b c refl

-- a tally written in its place
module _ (tallies : List Tally) (k weight : ℕ) (h : k < length tallies) where
  abbrev no_tally : Tally
  no_tally = record { images = 0; sum = 0 }

  abbrev old : Tally
  old = get_or tallies k no_tally

  abbrev new : Tally
  new = record { images = old.images; sum = old.sum + weight / old.images }

  abbrev after : List Tally
  after = take (length tallies) (set tallies k new ++ drop (length (set tallies k new)) tallies)

  after_is : after ≡ set tallies k new
  after_is =
      let n = length-set tallies k new in
      take-append-le (length tallies) (set tallies k new) (drop (length (set tallies k new)) tallies) (omega arith)
      ∙ take_all (length tallies) (set tallies k new) (omega arith)

  pub portion_images : images_in after ≡ images_in tallies
  portion_images = ap images_in after_is ∙ column_same (λ (t : Tally). t.images) tallies k new no_tally refl

  pub portion_sums : sums_in after
      ≡ set (sums_in tallies) k (get_or (sums_in tallies) k 0 + weight / get_or (images_in tallies) k 0)
  portion_sums =
      rw (
        column_at (λ (t : Tally). t.sum) tallies k no_tally h,
        column_at (λ (t : Tally). t.images) tallies k no_tally h,
      )
      (ap sums_in after_is ∙ column_set (λ (t : Tally). t.sum) tallies k new h)
