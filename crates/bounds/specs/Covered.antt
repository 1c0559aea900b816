-- `Occurs` and `Takes` leave nothing out: a call with another norm is the call as defined, if the two norms agree
-- wherever `Takes` says that a norm is taken in a call that `Occurs`. So `AnyNorm` is the definitions (take the norm
-- itself for the other one). Leans on Calls.
use Rattle.std.specs.Prelude.{◌≡◌, not, ◌&&◌, leb, Float}
use Rattle.std.proofs.Math.Bool.{cond}
use mathlib.Core.List.{List, [], ◌∷◌, ◌++◌, map}
use Prim.Native.Nat.{ℕ}
use Rattle.std.proofs.Math.Dec.{compare_is_eq}
use Rattle.std.proofs.Math.ListN.{length}
use Rattle.definitions.specs.Lists.{compare_nats, any_of, fresh}
use Rattle.definitions.specs.Vectors.{Vec, norm}
use Rattle.definitions.specs.Subspace.{Subspace, is_hyperplane}
use Rattle.definitions.specs.Orbits.{Row, Orbit, set_image}
use Rattle.bounds.specs.Calls.{Takes, Occurs}

-- what `hyperplanes` makes of one tuple's subspace and set, given what it makes of the later tuples
abbrev pub with_tuple : ℕ → List Row → List (List ℕ) → Subspace → List ℕ → (List (List ℕ) → List Orbit) → List Orbit
with_tuple most rows seen s set later =
    let joined = fresh compare_nats seen (map (set_image set) rows) in
    let orbit : Orbit = record { vertices = set; count = length joined } in
    cond (is_hyperplane s && not (any_of (λ (q : List ℕ). compare_is_eq (compare_nats set q)) seen)
    && leb (length set) most) (orbit ∷ later (joined ++ seen)) (later seen)

module _ (other : Vec → Float) where
  -- ---- every call

  -- the two norms agree wherever a norm is taken
  pub record Agree (tolerance : Float) (top : ℕ) (outer : Subspace) (given : List Vec) : Type 0 where
    pub at : {depth more : ℕ} {plane : Subspace} {points : List Vec} {v : Vec}
        → Occurs tolerance top outer given depth more plane points → Takes tolerance plane points v → other v ≡ norm v
