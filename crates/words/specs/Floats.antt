-- What a read of a float returns: the float, or that the bytes are a NaN's. Leans on the library's floats.
use Rattle.std.specs.Prelude.{Float, Option, Some, None}
use Rattle.std.specs.Float.{nan, inf, fin}

unfoldable pub read_of : Float → Option Float
read_of nan = None
read_of (inf s) = Some (inf s)
read_of (fin s m e) = Some (fin s m e)
