-- Bytes of zero, as many as a buffer has. They have a name of their own, so that no check writes millions of them
-- out.
use Rattle.std.specs.Prelude.{List, ℕ, replicate}

unfoldable pub zeros : ℕ → List ℕ
zeros n = replicate n 0
