-- Of which block a query goes through the chain, and what a chain without a step decides.
use Rattle.std.proofs.Common.{◌≡◌, ◌<◌, ◌≤◌, ℕ, ◌+◌, true, false, nat_eq, nat_lt, Err, List, [], ◌∷◌, ◌++◌, map, length, Option, Some, None, option_map, slice_get, refl, sym, ap, ◌∙◌, append_assoc, arith, Bor}
use Rattle.std.specs.Prelude.{IfSome, MatchOption, get_or}
use Rattle.std.specs.List.{HoldsAt}
use Rattle.std.proofs.lemmas.Option.{slice_get_past, slice_get_read}
use Rattle.std.proofs.lemmas.Bool.{lt-ltb}
use Rattle.std.proofs.lemmas.List.{length-append, length-map}
use Rattle.std.specs.Prelude.{Bool, ◌&&◌, is_some, option_and_then}
use Rattle.std.proofs.lemmas.Option.{slice_get-map}
use Rattle.dns_data.specs.declared.block.Block.{Block}
use Rattle.dns_data.specs.declared.class.TheConstants as classes
use Rattle.dns_data.specs.declared.directive.Directive.{Directive}
use Rattle.dns_data.specs.declared.file.FileText.{FileText}
use Rattle.dns_data.specs.declared.message.Opt.{Opt}
use Rattle.dns_data.specs.declared.query.Query.{Query}
use Rattle.dns_data.specs.declared.rcode.TheConstants as rcodes
use Rattle.outside.specs.Meanings.{Done}
use Rattle.outside.specs.declared.mark.Mark.{Mark}
use Rattle.chain_meaning.specs.Mean.{mean, nothing}
use Rattle.chain_meaning.specs.Serving.{block_decides, block_of, chain_decides, is_known_version, query_decides, refused}
use Rattle.chain_meaning.specs.declared.decision.Decision.{Decision}
use Rattle.chain_meaning.specs.declared.decision.Decision.TheVariants as decision
use Rattle.plugin_api.specs.{PlanData, Sayings}
use Rattle.chain_meaning.specs.Steps.{Step, block_extras, cache_steps, dns64_steps, extra_step, extra_steps, rewrite_steps, steps_of}
use Rattle.chain_build.specs.Compiled.{back_of, front_of, middle_of}
use Rattle.chain_build.specs.Plans.{behind_of, extras_in, heads_in, inner_of, steps_in}
use Rattle.chain_build.specs.declared.block.BlockChain.{BlockChain}
use Rattle.corefile_blocks.specs.declared.bundle.Bundle.{Bundle}
use Rattle.chain_build.specs.{ReadsBundle}
use Rattle.chain_build.specs.declared.fault.CheckFault.{CheckFault}
use Rattle.chain_build.specs.declared.fault.CheckFault.TheVariants as check
use Rattle.plain_chain.specs.Reading.{ReadsPlain, has_extra, has_none, is_some_extra, plain_terms}
use Rattle.plain_chain.specs.Steps.{plain_others, plain_rest, plain_run, plain_steps}
use Rattle.plain_chain.specs.Traced.{chain_traced}
use Rattle.chain_trail.specs.Trail.{bare, traced}
use Rattle.chain_trail.specs.TrailLaws.{traced-means}
use Rattle.chain_trail.specs.declared.reached.StepName.{StepName}

-- what was read of the block of a number
module _ (said : Sayings) (files : List FileText) (read : List BlockChain) (blocks : List Block) (same : map (steps_in said) read ≡ map (steps_of said files) blocks) where
  pub by-number : (number : Option ℕ) → option_map (steps_in said) (option_and_then (slice_get read) number) ≡ option_map (steps_of said files) (option_and_then (slice_get blocks) number)
  by-number None = refl
  by-number (Some n) = sym (slice_get-map (steps_in said) read n) ∙ ap (λ l. slice_get l n) same ∙ slice_get-map (steps_of said files) blocks n

  chosen : (block : Option Block) (chain : Option BlockChain) (q : Query) (marks : List Mark) → option_map (steps_in said) chain ≡ option_map (steps_of said files) block → (p : BlockChain) → chain ≡ Some p
      → chain_decides (steps_in said p) q marks ≡ block_decides (steps_of said files) block q marks
  chosen None None q marks e p is = absurd cc
  chosen None (Some o) q marks e p is = absurd cc
  chosen (Some block) None q marks e p is = absurd cc
  chosen (Some block) (Some o) q marks e p is =
      let here : o ≡ p = cc in
      let steps : steps_in said o ≡ steps_of said files block = cc in
      ap (λ s. chain_decides s q marks) (ap (steps_in said) (sym here) ∙ steps)

  not_chosen : (block : Option Block) (chain : Option BlockChain) (q : Query) (marks : List Mark) → option_map (steps_in said) chain ≡ option_map (steps_of said files) block → chain ≡ None
      → Done refused marks ≡ block_decides (steps_of said files) block q marks
  not_chosen None chain q marks e is = refl
  not_chosen (Some block) (Some o) q marks e is = absurd cc
  not_chosen (Some block) None q marks e is = absurd cc

  -- the chain that was read decides
  pub read-decides : (number : Option ℕ) (q : Query) (marks : List Mark) (p : BlockChain) → Some p ≡ option_and_then (slice_get read) number
      → chain_decides (steps_in said p) q marks ≡ block_decides (steps_of said files) (option_and_then (slice_get blocks) number) q marks
  read-decides number q marks p is = chosen (option_and_then (slice_get blocks) number) (option_and_then (slice_get read) number) q marks (by-number number) p (sym is)

  -- and without one a query is refused
  pub none-decides : (number : Option ℕ) (q : Query) (marks : List Mark) → None ≡ option_and_then (slice_get read) number
      → Done refused marks ≡ block_decides (steps_of said files) (option_and_then (slice_get blocks) number) q marks
  none-decides number q marks is = not_chosen (option_and_then (slice_get blocks) number) (option_and_then (slice_get read) number) q marks (by-number number) (sym is)

-- whether the block of a number has an extra's directive
by-some : (chain : Option BlockChain) (block : Option Block) (p : BlockChain) → option_map extras_in chain ≡ option_map block_extras block → chain ≡ Some p → is_some_extra p.extras ≡ has_extra block
by-some None None p e is = absurd cc
by-some None (Some o) p e is = absurd cc
by-some (Some o) None p e is = absurd cc
by-some (Some o) (Some block) p e is =
    let here : o ≡ p = cc in
    let same : o.extras ≡ block_extras block = cc in
    ap (λ (c : BlockChain). is_some_extra c.extras) (sym here) ∙ ap is_some_extra same

by-none : (chain : Option BlockChain) (block : Option Block) → option_map extras_in chain ≡ option_map block_extras block → chain ≡ None → false ≡ has_extra block
by-none chain None e is = refl
by-none None (Some block) e is = absurd cc
by-none (Some o) (Some block) e is = absurd cc

module _ (read : List BlockChain) (blocks : List Block) (same : map extras_in read ≡ map block_extras blocks) where
  extras-number : (number : Option ℕ) → option_map extras_in (option_and_then (slice_get read) number) ≡ option_map block_extras (option_and_then (slice_get blocks) number)
  extras-number None = refl
  extras-number (Some n) = sym (slice_get-map extras_in read n) ∙ ap (λ l. slice_get l n) same ∙ slice_get-map block_extras blocks n

  pub some-extra : (number : Option ℕ) (p : BlockChain) → Some p ≡ option_and_then (slice_get read) number → is_some_extra p.extras ≡ has_extra (option_and_then (slice_get blocks) number)
  some-extra number p is = by-some (option_and_then (slice_get read) number) (option_and_then (slice_get blocks) number) p (extras-number number) (sym is)

  pub none-extra : (number : Option ℕ) → None ≡ option_and_then (slice_get read) number → false ≡ has_extra (option_and_then (slice_get blocks) number)
  none-extra number is = by-none (option_and_then (slice_get read) number) (option_and_then (slice_get blocks) number) (extras-number number) (sym is)

pub some-length : (ds : List Directive) → 0 < length ds → is_some_extra ds ≡ true
some-length [] h = absurd (omega (arith, h))
some-length (d ∷ ds) h = refl

pub no-length : (ds : List Directive) → length ds ≤ 0 → is_some_extra ds ≡ false
no-length [] h = refl
no-length (d ∷ ds) h = absurd (omega (arith, h))

pub lt-some : (ds : List Directive) (n : ℕ) → n ≡ length ds → nat_lt 0 n ≡ is_some_extra ds
lt-some [] n e = rw e refl
lt-some (d ∷ ds) n e = rw e (lt-ltb 0 (length (d ∷ ds)) (omega arith))

-- what is read of a bundle, where its reading failed
pub plain_err : (bundle : Bundle) (default_port : ℕ) (last : Option (List ℕ)) (e : CheckFault) → ReadsBundle bundle (plain_terms default_port) last (Err e) → ReadsPlain bundle default_port last (Err e)
plain_err bundle default_port last (check.Refused why) h = h
plain_err bundle default_port last check.NoMemory h = tt

pub is-none : (ds : List Directive) → is_some_extra ds ≡ false → ds ≡ []
is-none [] e = refl
is-none (d ∷ ds) e = absurd cc

pub both-true : (a b c : Bool) → a ≡ true → b ≡ true → (a && (b && c)) ≡ false → c ≡ false
both-true true true c p q e = e
both-true false b c p q e = absurd cc
both-true true false c p q e = absurd cc

-- a chain step by step
pub chain-steps : (said : Sayings) (chain : BlockChain) → steps_in said chain ≡ plain_steps said chain.front chain
chain-steps said chain =
    append_assoc (map front_of chain.front) (dns64_steps chain.dns64 ++ map middle_of chain.middle) (plain_others said chain.extras chain)
    ∙ ap (λ (rest : List Step). map front_of chain.front ++ rest) (append_assoc (dns64_steps chain.dns64) (map middle_of chain.middle) (plain_others said chain.extras chain))

-- without extras it is no matter what they say
pub none-say : (said other : Sayings) (chain : BlockChain) → chain.extras ≡ [] → steps_in said chain ≡ steps_in other chain
none-say said other chain none =
    (λ i. heads_in chain ++ (extra_steps said (none i) ++ inner_of chain)) ∙ (λ i. heads_in chain ++ (extra_steps other (sym none i) ++ inner_of chain))

-- what a query of class IN is asked for
pub asked-decides : (opt : Option Opt) (class : ℕ) (steps : Block → List Step) (blocks : List Block) (q : Query) (marks : List Mark) → is_known_version opt ≡ true → nat_eq class classes.IN ≡ true
    → block_decides steps (block_of blocks q) q marks ≡ query_decides opt class steps blocks q marks
asked-decides opt class steps blocks q marks known own = rw (known, own) refl

-- another version of EDNS gets no records, and another class is refused
pub version-decides : (opt : Option Opt) (class : ℕ) (steps : Block → List Step) (blocks : List Block) (q : Query) (marks : List Mark) → is_known_version opt ≡ false
    → query_decides opt class steps blocks q marks ≡ Done (decision.Reply (nothing rcodes.NOERROR)) marks
version-decides opt class steps blocks q marks other = rw other refl

pub class-decides : (opt : Option Opt) (class : ℕ) (steps : Block → List Step) (blocks : List Block) (q : Query) (marks : List Mark) → is_known_version opt ≡ true → nat_eq class classes.IN ≡ false
    → query_decides opt class steps blocks q marks ≡ Done refused marks
class-decides opt class steps blocks q marks known other = rw (known, other) refl

-- a chain without a step refuses, and another means what its steps do
pub none-refuses : (steps : List Step) (q : Query) (marks : List Mark) → has_none steps ≡ true → Done refused marks ≡ chain_decides steps q marks
none-refuses [] q marks e = refl
none-refuses (step ∷ steps) q marks e = absurd cc

pub some-mean : (steps : List Step) (q : Query) (marks : List Mark) → has_none steps ≡ false → mean steps q marks ≡ chain_decides steps q marks
some-mean [] q marks e = absurd cc
some-mean (step ∷ steps) q marks e = refl

-- whether a chain has a step
pub some-steps : (steps : List Step) → 0 < length steps → false ≡ has_none steps
some-steps [] some = absurd (omega (arith, some))
some-steps (step ∷ steps) some = refl

pub no-steps : (steps : List Step) → length steps ≤ 0 → true ≡ has_none steps
no-steps [] none = refl
no-steps (step ∷ steps) none = absurd (omega (arith, none))

-- how many it has
pub own-length : (said : Sayings) (chain : BlockChain)
    → length (steps_in said chain) ≡ length chain.front + (length (dns64_steps chain.dns64) + (length chain.middle + (length chain.extras + (length (cache_steps chain.cache) + (length (rewrite_steps chain.rewrites) + length chain.back)))))
own-length said chain =
    omega (
      arith,
      ap length (chain-steps said chain),
      length-append (map front_of chain.front) (plain_rest said chain),
      length-append (dns64_steps chain.dns64) (plain_run said chain.middle chain),
      length-append (map middle_of chain.middle) (plain_others said chain.extras chain),
      length-append (extra_steps said chain.extras) (inner_of chain),
      length-append (cache_steps chain.cache) (behind_of chain),
      length-append (rewrite_steps chain.rewrites) (map back_of chain.back),
      length-map chain.front front_of,
      length-map chain.middle middle_of,
      length-map chain.extras (extra_step said),
      length-map chain.back back_of,
    )

pub some-rules : (ds : List Directive) → 0 < length ds → 0 < length (rewrite_steps ds)
some-rules [] some = absurd (omega (arith, some))
some-rules (d ∷ ds) some = omega arith

pub no-rules : (ds : List Directive) → length ds ≤ 0 → length (rewrite_steps ds) ≡ 0
no-rules [] none = refl
no-rules (d ∷ ds) none = absurd (omega (arith, none))

pub some-dns64 : (o : Option Directive) → is_some o ≡ true → 0 < length (dns64_steps o)
some-dns64 None some = absurd cc
some-dns64 (Some d) some = omega arith

pub no-dns64 : (o : Option Directive) → is_some o ≡ false → length (dns64_steps o) ≡ 0
no-dns64 None none = refl
no-dns64 (Some d) none = absurd cc

pub some-cache : (o : Option PlanData) → is_some o ≡ true → 0 < length (cache_steps o)
some-cache None some = absurd cc
some-cache (Some plan) some = omega arith

pub no-cache : (o : Option PlanData) → is_some o ≡ false → length (cache_steps o) ≡ 0
no-cache None none = refl
no-cache (Some plan) none = absurd cc

-- with its lines a chain decides what it decides without them
pub traced-decides : (steps : List Step) (ns : List StepName) (q : Query) (marks : List Mark) → (chain_traced steps ns q marks).means ≡ chain_decides steps q marks
traced-decides [] ns q marks = refl
traced-decides (step ∷ steps) ns q marks = traced-means (step ∷ steps) ns q marks

pub none-traced : (steps : List Step) (ns : List StepName) (q : Query) (v : Decision) → v ≡ refused → has_none steps ≡ true → (marks : List Mark) → chain_traced steps ns q marks ≡ record { lines = []; means = Done v marks }
none-traced [] ns q v is e marks = ap (λ w. bare (Done w marks)) (sym is)
none-traced (step ∷ steps) ns q v is e marks = absurd cc

pub some-traced : (steps : List Step) (ns : List StepName) (q : Query) (marks : List Mark) → has_none steps ≡ false → chain_traced steps ns q marks ≡ traced steps ns q marks
some-traced [] ns q marks e = absurd cc
some-traced (step ∷ steps) ns q marks e = refl

-- an element of a slice, as a value
pub found_at : {X : Type 0} (o : Option (Bor X)) (xs : List X) (n : ℕ) → IfSome o (λ x. x.now ≡ get_or xs n x.now) → MatchOption o (length xs ≤ n) (λ x. (n < length xs) × HoldsAt (λ y. x.now ≡ y) xs n)
    → option_map (λ x. x.now) o ≡ slice_get xs n
found_at None xs n some either = sym (slice_get_past xs n either)
found_at (Some x) xs n some either = sym (slice_get_read xs (length xs) n x.now refl either.0 some)
