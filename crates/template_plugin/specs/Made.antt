-- What is made of a directive once, and what is said by it.
use Rattle.std.specs.Prelude.{◌≡◌, ℕ, ◌<◌, List, map, Option, Some, None, IfSome}
use Rattle.std.specs.Prelude.{option_map, slice_get}
use Rattle.dns_data.specs.{addr_text, name_text}
use Rattle.dns_data.specs.Message.{AnswerData, no_answer}
use Rattle.dns_data.specs.declared.directive.Line.{Line}
use Rattle.dns_data.specs.declared.query.Query.{Query}
use Rattle.plugin_api.specs.{PlanData, fallthrough_of}
use Rattle.pattern.specs.Searches.{IsPartOf, scratch_group}
use Rattle.pattern.specs.Texts.{Finding, whole_span}
use Rattle.pattern.specs.declared.scratch.Scratch.{Scratch}
use Rattle.regex.specs.declared.string.regex.Regex.{Regex}
use Rattle.type_names.specs.{kind_text}
use Rattle.template_plugin.specs.declared.filling.Filling.{Filling}
use Rattle.template_plugin.specs.declared.record_parts.Sections.{Sections}
use Rattle.template_plugin.specs.declared.answering.TemplateSay.{TemplateSay}
use Rattle.template_plugin.specs.declared.answering.TemplateSay.TheVariants as say
use Rattle.template_plugin.specs.Judging.{AreOf}
use Rattle.template_plugin.specs.Parts.{FillingData, numbers_of, sections_of}
use Rattle.template_plugin.specs.Template.{Said, first_found, found_by, found_said, longest_zone}
use Rattle.template_plugin.specs.Template.{next, no_match, not_record, reply, searched}
use Rattle.template_plugin.specs.Words.{kind_of, patterns_of, plan_zones, rcode_of}

-- the parts of a plan
pub record PlanParts : Type 0 where
  pub kind : ℕ
  pub zones : List (List (List ℕ))
  pub fallthrough : List (List (List ℕ))
  pub rcode : ℕ
  pub patterns : List Regex
  pub sections : List Sections
  pub whole : Sections

-- the sections of a pattern
abbrev pub pattern_sections : List Line → Regex → Sections
pattern_sections lines pattern = sections_of (numbers_of (Some pattern)) lines

-- the parts are those of this plan
pub record IsMade (plan : PlanData) (parts : PlanParts) : Type 0 where
  pub kind_is : parts.kind ≡ kind_of plan.directive.args
  pub zones_are : parts.zones ≡ plan_zones plan
  pub fallthrough_is : parts.fallthrough ≡ fallthrough_of plan.directive.body
  pub rcode_is : parts.rcode ≡ rcode_of plan.directive.body
  pub rcode_small : parts.rcode < 16
  pub patterns_are : AreOf (patterns_of plan.directive.body) parts.patterns
  pub sections_are : parts.sections ≡ map (pattern_sections plan.directive.body) parts.patterns
  pub whole_is : parts.whole ≡ sections_of (numbers_of None) plan.directive.body

-- a pattern is found, and these are its groups
pub record IsFirst (texts : List (List ℕ)) (patterns : List Regex) (text : List ℕ)
    (scratch : Scratch) (number : ℕ) : Type 0 where
  pub pattern : Regex
  pub stands : slice_get patterns number ≡ Some pattern
  pub found : Finding
  pub is : first_found texts text ≡ Some found
  pub spans : (n : ℕ) → scratch_group scratch n ≡ found.span n
  pub numbers : (name : List ℕ) → numbers_of (Some pattern) name ≡ found.number name
  pub parts : (n : ℕ) → IfSome (scratch_group scratch n) (IsPartOf text)

-- the first of patterns that is found in a text
abbrev pub Finds : List Regex → List ℕ → Scratch → List (List ℕ) → Option ℕ → Type 0
Finds patterns text scratch texts None = first_found texts text ≡ None
Finds patterns text scratch texts (Some number) = IsFirst texts patterns text scratch number

-- what groups span: those that a search kept, or the whole of a text
abbrev pub spans_by : Option Scratch → List ℕ → ℕ → Option (ℕ × ℕ)
spans_by None text number = whole_span text number
spans_by (Some scratch) text number = scratch_group scratch number

-- what texts are filled in with
abbrev pub filling_data : Filling → FillingData
filling_data f = record {
  name = f.name.now;
  zone = name_text (longest_zone f.query.now.name f.zones.now);
  kind = kind_text f.query.now.kind;
  client = addr_text f.query.now.client;
  span = spans_by (option_map (λ s. s.now) f.groups) f.name.now;
}

-- the groups are parts of the name's text
abbrev pub HasParts : Filling → Type 0
HasParts f = (n : ℕ)
    → IfSome (spans_by (option_map (λ s. s.now) f.groups) f.name.now n) (IsPartOf f.name.now)

-- what a template that is for the query says, where what isn't matched goes on to nothing
abbrev pub own_say : PlanData → Query → Said
own_say plan q =
    found_said plan q next (found_by (patterns_of plan.directive.body) (searched q.name))

-- what was said, with the answer in a slot
abbrev pub Says : TemplateSay → Said → AnswerData → Type 0
Says say.Reply said slot = said ≡ reply slot
Says say.Next said slot = (said ≡ next) × (slot ≡ no_answer)
Says say.NoMatch said slot = (said ≡ no_match) × (slot ≡ no_answer)
Says say.NotRecord said slot = (said ≡ not_record) × (slot ≡ no_answer)
