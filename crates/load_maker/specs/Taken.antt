-- Which queries a load's sides took. This server's own rule.
use Rattle.std.specs.Prelude.{List, [], ◌∷◌}
use Rattle.std.specs.List.{flat_map}
use Rattle.outside.specs.declared.datagram.Datagram.{Datagram}
use Rattle.outside.specs.declared.mark.Mark.{Mark}
use Rattle.outside.specs.declared.mark.Mark.TheVariants.{Got}

-- the datagrams that were taken, in order
abbrev pub datagram_in : Mark → List Datagram
datagram_in (Got datagram) = datagram ∷ []
datagram_in mark = []

abbrev pub datagrams_in : List Mark → List Datagram
datagrams_in journal = flat_map datagram_in journal
