-- The area of a level's lists, as the crate `order` reads one. Leans on the order's areas. Assumes nothing.
use Rattle.order.specs.declared.Area.{Area}
use Rattle.layout.specs.declared.Level.{Level}

abbrev pub area_of : Level → Area
area_of level = record { most = 1024; bytes = level.bytes; count = level.count }
