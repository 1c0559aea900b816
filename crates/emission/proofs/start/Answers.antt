-- `emission::start` meets its contract. Two areas are cleared, the lists are emptied, and the first frame is written.
-- Assumes nothing.
use native.Mathlib.Omega.{arith}
use mathlib.Core.List.{List}
use mathlib.Core.Path.{◌≡◌}
use Prim.Native.Nat.{ℕ, ◌-◌}
use lib.ListN.{length, replicate}
use Rattle.std.specs.Prelude.{None}
use Rattle.definitions.specs.Search.{Table}
use Rattle.laws.specs.Segments.{part, placed}
use Rattle.pool.specs.Pool.{emptied}
use Rattle.facets.specs.declared.Areas.{Areas}
use Rattle.facets.specs.Layout.{Inputs, frames_part, totals_part, lists_part}
use Rattle.frames.specs.Paths.{with_frame}
use Rattle.emission.specs.Emission.{Started, started}
use Rattle.emission.proofs.start.Goals as goal

-- the orbits in use are cleared up to an end, which is where the lists begin
started_to : (t : Table) (a : Areas) (s r1 r2 r3 r4 : List ℕ) → Inputs t a s
    → r1 ≡ replicate (length (totals_part a s)) 0 → {end : ℕ}
    → let s1 = placed a.totals (a.used - a.totals) s r1 in
    let s2 = placed a.used (end - a.used) s1 r2 in
    let s3 = placed a.lists (a.end - a.lists) s2 r3 in
    r2 ≡ replicate (length (part a.used (end - a.used) s1)) 0 → r3 ≡ emptied (lists_part a s2)
    → r4 ≡ with_frame (frames_part a s3) 0 a.facets 0 0 None → end ≡ a.lists
    → Started t a s (placed a.frames (a.totals - a.frames) s3 r4)
started_to t a s r1 r2 r3 r4 h e1 e2 e3 e4 z =
    rw z (started t a s r1 r2 r3 r4 h e1 (rw z at e2) (rw z at e3) (rw z at e4))

pub returns : goal.returns
returns c =
    λ t h. started_to t c.args.a c.args.ws.now c.fill.new.self c.fill-2.new.self c.clear.new.s c.put_frame.new.frames
    h (c.fill.ensures.after (λ y e. e)) (c.fill-2.ensures.after (λ y e. e)) c.clear.ensures c.put_frame.ensures
    (omega arith)
