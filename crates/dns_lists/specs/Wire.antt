-- The two forms of the bytes of a name. No public clause cites this module.
use Rattle.std.specs.Prelude.{ℕ, List}
use Rattle.dns_lists.specs.declared.wire.Form.{Form}
use Rattle.dns_lists.specs.declared.wire.Form.TheVariants.{Few, Many}

-- the bytes that a form holds
abbrev pub bytes_of : Form → List ℕ
bytes_of (Few short) = short
bytes_of (Many long) = long.items
