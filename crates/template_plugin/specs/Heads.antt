-- Texts that begin with the name of the query and are those of an address.
use Rattle.std.specs.Prelude.{◌≡◌, ℕ, List, [], ◌∷◌}
use Rattle.record_text.specs.{LeadsTo}
use Rattle.record_text.specs.declared.head.AddressHead.{AddressHead}
use Rattle.template_plugin.specs.declared.part.Part.{Part}
use Rattle.template_plugin.specs.declared.part.Part.TheVariants as part
use Rattle.template_plugin.specs.Template.{default_ttl}

-- parts are no bytes, the name, bytes that begin with this head, and others
pub record BeginsAddress (parts : List Part) (head : AddressHead) : Type 0 where
  pub bytes : List ℕ
  pub others : List Part
  pub are : parts ≡ part.Bytes [] ∷ part.Name ∷ part.Bytes bytes ∷ others
  pub leads : LeadsTo bytes default_ttl head
