-- A directive without patterns is never refused for one, so reading it leaves the maker as it was.
use Rattle.std.proofs.Common.{◌≡◌, ℕ, Bool, true, false, List, [], ◌∷◌, Option, None, Some, Result, Ok, Err, refl, subst, if◌then◌else◌}
use Rattle.std.specs.Prelude.{codes, is_some, nat_le, not, option_map, ◌+◌, ◌++◌, length, ◌||◌, ◌&&◌}
use Rattle.std.specs.Option.{option_or}
use Rattle.acl_plugin.specs.Acl.{acl_fault, body_fault, lines_fault as policies_fault}
use Rattle.acl_plugin.specs.Lines as acl
use Rattle.acl_plugin.specs.Lines.{line_why as policy_why}
use Rattle.acl_plugin.specs.declared.part.Part.{Part}
use Rattle.acl_plugin.specs.declared.part.Part.TheVariants as part
use Rattle.cache_rules.specs.Reading as cache
use Rattle.cache_rules.specs.Reading.{cache_fault}
use Rattle.cache_rules.specs.Options as caching
use Rattle.cache_rules.specs.Options.{is_digits}
use Rattle.cache_rules.specs.declared.options.Choice.{Choice}
use Rattle.cache_rules.specs.declared.options.Choice.TheVariants as choices
use Rattle.cache_rules.specs.declared.options.Opens.{Opens as CacheOpens}
use Rattle.cache_rules.specs.declared.options.Opens.TheVariants as words
use Rattle.cache_rules.specs.declared.options.Seen.{Seen as CacheSeen}
use Rattle.dns_data.specs.{addr_of, net_of}
use Rattle.dns_data.specs.declared.directive.Directive.{Directive}
use Rattle.dns_data.specs.declared.directive.Line.{Line}
use Rattle.dns64_plugin.specs.Options.{seen_first}
use Rattle.dns64_plugin.specs.Prefixes.{prefix_in}
use Rattle.dns64_plugin.specs.Reading as dns64
use Rattle.dns64_plugin.specs.Reading.{dns64_fault}
use Rattle.dns64_plugin.specs.Options as dns64_options
use Rattle.dns64_plugin.specs.declared.options.Opens.{Opens as Dns64Opens}
use Rattle.dns64_plugin.specs.declared.options.Opens.TheVariants as dns64_opens
use Rattle.dns64_plugin.specs.declared.options.Seen.{Seen as Dns64Seen}
use Rattle.file_plugin.specs.{FileData}
use Rattle.file_plugin.specs.Reading as file
use Rattle.file_plugin.specs.Reading.{file_fault}
use Rattle.file_plugin.specs.Zones.{origins_of, origins_or, zones_from}
use Rattle.file_plugin.specs.declared.fault.FileFault.{FileFault}
use Rattle.file_plugin.specs.declared.fault.FileFault.TheVariants as broken
use Rattle.dns_data.specs.declared.file.FileText.{FileText}
use Rattle.dns_data.specs.declared.limit.Limit.TheVariants as limit
use Rattle.dns_data.specs.declared.limit.TheConstants as limits
use Rattle.forward_plugin.specs.{ForwardData, forward_fault, forward_read}
use Rattle.forward_plugin.specs.Options.{fails_in, policy_in}
use Rattle.forward_plugin.specs.Reading as forward
use Rattle.forward_plugin.specs.declared.seen.Opens.{Opens as ForwardOpens}
use Rattle.forward_plugin.specs.declared.seen.Opens.TheVariants as options
use Rattle.forward_plugin.specs.declared.seen.OptionsSeen.{OptionsSeen}
use Rattle.outside.specs.declared.datagram.Upstream.{Upstream}
use Rattle.upstream_words.specs.Upstreams.{servers_in, upstream_of}
use Rattle.upstream_words.specs.Words as upstreams
use Rattle.upstream_words.specs.Words.{by_file, by_word, is_file, onward_ok, served, with_more, with_word, with_words}
use Rattle.hosts_plugin.specs.Hosts.{zones_behind}
use Rattle.hosts_plugin.specs.Listings.{name_in}
use Rattle.hosts_plugin.specs.Options.{ttl_in}
use Rattle.hosts_plugin.specs.Reading as hosts
use Rattle.hosts_plugin.specs.Reading.{hosts_fault}
use Rattle.hosts_plugin.specs.declared.options.Opens.{Opens}
use Rattle.hosts_plugin.specs.declared.options.Opens.TheVariants as opens
use Rattle.hosts_plugin.specs.declared.options.Seen.{Seen}
use Rattle.outside.specs.{WatchState}
use Rattle.plain_plugins.specs.Plain as plain
use Rattle.plain_plugins.specs.Plain.{plain_fault}
use Rattle.plain_plugins.specs.Reload.{duration_why, reload_why}
use Rattle.numbers.specs.{duration_of}
use Rattle.plugin_api.specs.{empty_why, fallthrough_why, fault_at, unless, words_behind}
use Rattle.plugin_api.specs.Options.{every_zone}
use Rattle.plugin_api.specs.declared.fault.DirectiveFault.{DirectiveFault}
use Rattle.plugin_api.specs.declared.fault.DirectiveFault.TheVariants as fault
use Rattle.plugin_api.specs.declared.fault.DirectiveWhy.{DirectiveWhy}
use Rattle.plugin_api.specs.declared.fault.DirectiveWhy.TheVariants as why
use Rattle.plugin_api.specs.declared.ranks.Rank.{Rank}
use Rattle.plugin_api.specs.declared.ranks.Rank.TheVariants as rank
use Rattle.type_names.specs.{kind_of_text}
use Rattle.zone_file.specs.declared.fault.ZoneFault.{ZoneFault}
use Rattle.zone_file.specs.declared.fault.ZoneFault.TheVariants as zone
use Rattle.zone_words.specs.{word_zone, zones_of, zones_or}
use Rattle.chain_meaning.specs.Accepting.{Behind, fixed_refusal, refused_by, refused_by_file}
use Rattle.chain_meaning.specs.Steps.{file_in}
use Rattle.chain_meaning.specs.declared.refusal.Refusal.{Refusal}
use Rattle.chain_build.specs.declared.fault.CheckFault.{CheckFault}
use Rattle.chain_build.specs.declared.fault.CheckFault.TheVariants as check
use Rattle.chain_build.specs.declared.places.Places.{Places}
use Rattle.chain_build.specs.Reading.{ReadsAs, check_behind, is_of_pattern}

-- no reason of a pattern
abbrev NoWhy : Option DirectiveWhy → Type 0
NoWhy (Some why.Pattern) = ⊥
NoWhy (Some why.PatternSize) = ⊥
NoWhy other = Unit {0}

abbrev NoFault : Option DirectiveFault → Type 0
NoFault (Some (fault.Why line w)) = NoWhy (Some w)
NoFault other = Unit {0}

why_or : (a b : Option DirectiveWhy) → NoWhy a → NoWhy b → NoWhy (option_or a b)
why_or None b p q = q
why_or (Some w) b p q = p

why_if : (t : Bool) (a b : Option DirectiveWhy) → NoWhy a → NoWhy b → NoWhy (if t then a else b)
why_if true a b p q = p
why_if false a b p q = q

fault_or : (a b : Option DirectiveFault) → NoFault a → NoFault b → NoFault (option_or a b)
fault_or None b p q = q
fault_or (Some w) b p q = p

at : (line : ℕ) (o : Option DirectiveWhy) → NoWhy o → NoFault (fault_at line o)
at line None p = tt
at line (Some w) p = p

-- acl
plain_no : (p : Part) (word : List ℕ) → NoWhy (acl.plain_why p word)
plain_no part.Front word = tt
plain_no part.Types word = why_if (acl.is_star word || is_some (kind_of_text word)) None (Some why.Kind) tt tt
plain_no part.Nets word = why_if (acl.is_star word || is_some (net_of word)) None (Some why.Net) tt tt

words_no : (p : Part) (words : List (List ℕ)) → NoWhy (acl.words_why p words)
words_no p [] = tt
words_no p (word ∷ words) =
    why_or (acl.word_why p word) (acl.words_why (acl.part_behind p word) words) (why_if (is_some (acl.opened word)) None (acl.plain_why p word) tt (plain_no p word)) (words_no (acl.part_behind p word) words)

policy_no : (words : List (List ℕ)) → NoWhy (policy_why words)
unfolding policy_why
policy_no [] = tt
policy_no (word ∷ words) = why_or (acl.unless (is_some (acl.action_of word)) why.Option) (acl.words_why part.Front words) (why_if (is_some (acl.action_of word)) None (Some why.Option) tt tt) (words_no part.Front words)

policies_no : (lines : List Line) → NoFault (policies_fault lines)
policies_no [] = tt
policies_no (line ∷ lines) = fault_or (fault_at line.number (policy_why line.words)) (policies_fault lines) (at line.number (policy_why line.words) (policy_no line.words)) (policies_no lines)

body_no : (line : ℕ) (lines : List Line) → NoFault (body_fault line lines)
body_no line [] = tt
body_no line (first ∷ lines) = policies_no (first ∷ lines)

acl_no : (d : Directive) (zones : List (List (List ℕ))) → NoFault (acl_fault d zones)
unfolding acl_fault
acl_no d zones =
    let words = acl.unless (is_some (zones_or zones d.args)) why.Zone in
    fault_or (fault_at d.line words) (body_fault d.line d.body) (at d.line words (why_if (is_some (zones_or zones d.args)) None (Some why.Zone) tt tt)) (body_no d.line d.body)

-- hosts
empty_no : (words : List (List ℕ)) → NoWhy (empty_why words)
empty_no [] = tt
empty_no (word ∷ words) = tt

ttl_no : (words : List (List ℕ)) → NoWhy (hosts.ttl_why words)
ttl_no [] = tt
ttl_no (word ∷ words) = why_or (unless (is_some (ttl_in word)) why.Number) (empty_why words) (why_if (is_some (ttl_in word)) None (Some why.Number) tt tt) (empty_no words)

names_no : (words : List (List ℕ)) → NoWhy (hosts.names_why words)
names_no [] = tt
names_no (word ∷ words) = why_or (unless (is_some (name_in word)) why.Zone) (hosts.names_why words) (why_if (is_some (name_in word)) None (Some why.Zone) tt tt) (names_no words)

some_names_no : (words : List (List ℕ)) → NoWhy (hosts.some_names_why words)
some_names_no [] = tt
some_names_no (word ∷ words) = names_no (word ∷ words)

opened_no : (seen : Seen) (o : Opens) (word : List ℕ) (words : List (List ℕ)) → NoWhy (hosts.why_by seen o word words)
opened_no seen opens.Ttl word words = why_if seen.ttl (Some why.Args) (hosts.ttl_why words) tt (ttl_no words)
opened_no seen opens.NoReverse word words = why_if seen.no_reverse (Some why.Args) (empty_why words) tt (empty_no words)
opened_no seen opens.Fallthrough word words = why_if seen.fallthrough (Some why.Args) (fallthrough_why words) tt (why_if (is_some (zones_or every_zone words)) None (Some why.Zone) tt tt)
opened_no seen opens.Addresses word words =
    why_or (unless (is_some (addr_of word)) why.Net) (hosts.some_names_why words) (why_if (is_some (addr_of word)) None (Some why.Net) tt tt) (some_names_no words)

line_no : (seen : Seen) (words : List (List ℕ)) → NoWhy (hosts.line_why seen words)
line_no seen [] = tt
line_no seen (word ∷ words) = opened_no seen (hosts.opened word) word words

lines_no : (seen : Seen) (lines : List Line) → NoFault (hosts.lines_fault seen lines)
lines_no seen [] = tt
lines_no seen (line ∷ lines) =
    fault_or (fault_at line.number (hosts.line_why seen line.words)) (hosts.lines_fault (hosts.seen_behind seen line.words) lines) (at line.number (hosts.line_why seen line.words) (line_no seen line.words))
    (lines_no (hosts.seen_behind seen line.words) lines)

hosts_no : (d : Directive) (zones : List (List (List ℕ))) → NoFault (hosts_fault d zones)
unfolding hosts_fault
hosts_no d zones =
    let words = unless (is_some (zones_behind zones d.args)) why.Zone in
    fault_or (fault_at d.line words) (hosts.lines_fault hosts.none_seen d.body) (at d.line words (why_if (is_some (zones_behind zones d.args)) None (Some why.Zone) tt tt)) (lines_no hosts.none_seen d.body)

-- cache
cache_ttl_no : (words : List (List ℕ)) → NoWhy (cache.ttl_why words)
cache_ttl_no [] = tt
cache_ttl_no (word ∷ words) = why_if (is_digits word && not (is_some (caching.ttl_in word))) (Some why.Number) None tt tt

cache_least_no : (words : List (List ℕ)) → NoWhy (cache.least_why words)
cache_least_no [] = tt
cache_least_no (word ∷ words) = why_or (unless (is_some (caching.ttl_in word)) why.Number) (empty_why words) (why_if (is_some (caching.ttl_in word)) None (Some why.Number) tt tt) (empty_no words)

cache_times_no : (words : List (List ℕ)) → NoWhy (cache.times_why words)
cache_times_no [] = tt
cache_times_no (word ∷ words) = why_or (unless (is_some (caching.ttl_in word)) why.Number) (cache.least_why words) (why_if (is_some (caching.ttl_in word)) None (Some why.Number) tt tt) (cache_least_no words)

cache_class_no : (words : List (List ℕ)) → NoWhy (cache.class_why words)
cache_class_no [] = tt
cache_class_no (word ∷ words) = why_or (unless (is_some (caching.capacity_in word)) why.Number) (cache.times_why words) (why_if (is_some (caching.capacity_in word)) None (Some why.Number) tt tt) (cache_times_no words)

cache_servfail_no : (words : List (List ℕ)) → NoWhy (cache.servfail_why words)
cache_servfail_no [] = tt
cache_servfail_no (word ∷ words) = why_or (unless (is_some (caching.seconds_in word)) why.Number) (empty_why words) (why_if (is_some (caching.seconds_in word)) None (Some why.Number) tt tt) (empty_no words)

cache_choice_no : (seen : CacheSeen) (choice : Choice) (words : List (List ℕ)) → NoWhy (cache.choice_why seen choice words)
cache_choice_no seen choices.Success words = why_if seen.no_success (Some why.Args) (empty_why words) tt (empty_no words)
cache_choice_no seen choices.Denial words = why_if seen.no_denial (Some why.Args) (empty_why words) tt (empty_no words)
cache_choice_no seen choices.Neither words = tt

cache_disable_no : (seen : CacheSeen) (words : List (List ℕ)) → NoWhy (cache.disable_why seen words)
cache_disable_no seen [] = tt
cache_disable_no seen (word ∷ words) = cache_choice_no seen (caching.choice_of word) words

cache_by_no : (seen : CacheSeen) (o : CacheOpens) (rest : List (List ℕ)) → NoWhy (cache.why_by seen o rest)
cache_by_no seen words.Success rest = why_if seen.success (Some why.Args) (cache.class_why rest) tt (cache_class_no rest)
cache_by_no seen words.Denial rest = why_if seen.denial (Some why.Args) (cache.class_why rest) tt (cache_class_no rest)
cache_by_no seen words.Servfail rest = why_if seen.servfail (Some why.Args) (cache.servfail_why rest) tt (cache_servfail_no rest)
cache_by_no seen words.Disable rest = cache_disable_no seen rest
cache_by_no seen words.Keepttl rest = why_if seen.keepttl (Some why.Args) (empty_why rest) tt (empty_no rest)
cache_by_no seen words.Nothing rest = tt

cache_line_no : (seen : CacheSeen) (words : List (List ℕ)) → NoWhy (cache.line_why seen words)
cache_line_no seen [] = tt
cache_line_no seen (word ∷ words) = cache_by_no seen (caching.opened word) words

cache_lines_no : (seen : CacheSeen) (lines : List Line) → NoFault (cache.lines_fault seen lines)
cache_lines_no seen [] = tt
cache_lines_no seen (line ∷ lines) =
    fault_or (fault_at line.number (cache.line_why seen line.words)) (cache.lines_fault (cache.seen_behind seen line.words) lines) (at line.number (cache.line_why seen line.words) (cache_line_no seen line.words))
    (cache_lines_no (cache.seen_behind seen line.words) lines)

cache_no : (d : Directive) (zones : List (List (List ℕ))) → NoFault (cache_fault d zones)
unfolding cache_fault
cache_no d zones =
    let words = cache.words_why zones d.args in
    fault_or (fault_at d.line words) (cache.lines_fault cache.none_seen d.body)
    (at d.line words (why_or (cache.ttl_why d.args) (unless (is_some (cache.zones_behind zones d.args)) why.Zone) (cache_ttl_no d.args) (why_if (is_some (cache.zones_behind zones d.args)) None (Some why.Zone) tt tt)))
    (cache_lines_no cache.none_seen d.body)

-- those without a body
prefix_no : (words : List (List ℕ)) → NoWhy (dns64.prefix_why words)
prefix_no [] = tt
prefix_no (word ∷ words) = why_or (unless (is_some (prefix_in word)) why.Net) (empty_why words) (why_if (is_some (prefix_in word)) None (Some why.Net) tt tt) (empty_no words)

dns64_words_no : (words : List (List ℕ)) → NoWhy (dns64.words_why words)
dns64_words_no [] = tt
dns64_words_no (word ∷ words) = prefix_no (word ∷ words)

dns64_opened_no : (seen : Dns64Seen) (o : Dns64Opens) (words : List (List ℕ)) → NoWhy (dns64.why_by seen o words)
dns64_opened_no seen dns64_opens.Prefix words = why_if seen.prefix (Some why.Args) (dns64.prefix_why words) tt (prefix_no words)
dns64_opened_no seen dns64_opens.AllowIpv4 words = why_if seen.allow_ipv4 (Some why.Args) (empty_why words) tt (empty_no words)
dns64_opened_no seen dns64_opens.Ptr words = why_if seen.ptr (Some why.Args) (empty_why words) tt (empty_no words)
dns64_opened_no seen dns64_opens.Nothing words = tt

dns64_line_no : (seen : Dns64Seen) (words : List (List ℕ)) → NoWhy (dns64.line_why seen words)
dns64_line_no seen [] = tt
dns64_line_no seen (word ∷ words) = dns64_opened_no seen (dns64_options.opened word) words

dns64_lines_no : (seen : Dns64Seen) (lines : List Line) → NoFault (dns64.lines_fault seen lines)
dns64_lines_no seen [] = tt
dns64_lines_no seen (line ∷ lines) =
    fault_or (fault_at line.number (dns64.line_why seen line.words)) (dns64.lines_fault (dns64_options.seen_behind seen line.words) lines) (at line.number (dns64.line_why seen line.words) (dns64_line_no seen line.words))
    (dns64_lines_no (dns64_options.seen_behind seen line.words) lines)

dns64_no : (d : Directive) → NoFault (dns64_fault d)
unfolding dns64_fault
dns64_no d =
    fault_or (fault_at d.line (dns64.words_why d.args)) (dns64.lines_fault (seen_first d.args) d.body) (at d.line (dns64.words_why d.args) (dns64_words_no d.args)) (dns64_lines_no (seen_first d.args) d.body)

duration_no : (word : List ℕ) → NoWhy (duration_why word)
duration_no word = why_if (is_some (duration_of word)) None (Some why.Number) tt tt

reload_no : (words : List (List ℕ)) → NoWhy (reload_why words)
reload_no [] = tt
reload_no (a ∷ []) = duration_no a
reload_no (a ∷ b ∷ []) = why_or (duration_why a) (duration_why b) (duration_no a) (duration_no b)
reload_no (a ∷ b ∷ word ∷ words) = why_or (option_or (duration_why a) (duration_why b)) (Some why.Args) (why_or (duration_why a) (duration_why b) (duration_no a) (duration_no b)) tt

none_no : (words : List (List ℕ)) → NoWhy (plain.no_words_why words)
none_no [] = tt
none_no (word ∷ words) = tt

bare_no : (lines : List Line) → NoWhy (plain.no_body_why lines)
bare_no [] = tt
bare_no (line ∷ lines) = tt

plain_words_no : (r : Rank) (zones : List (List (List ℕ))) (words : List (List ℕ)) → NoWhy (plain.words_why r zones words)
plain_words_no rank.Reload zones words = reload_no words
plain_words_no rank.Log zones words = why_if (is_some (zones_or zones words)) None (Some why.Zone) tt tt
plain_words_no other zones words = none_no words

plain_why_no : (r : Rank) (zones : List (List (List ℕ))) (d : Directive) → NoWhy (plain.plain_why r zones d)
plain_why_no rank.Passive zones d = tt
plain_why_no other zones d = why_or (plain.words_why other zones d.args) (plain.no_body_why d.body) (plain_words_no other zones d.args) (bare_no d.body)

plain_fault_no : (r : Rank) (d : Directive) (zones : List (List (List ℕ))) → NoFault (plain_fault r d zones)
unfolding plain_fault
plain_fault_no r d zones = at d.line (plain.plain_why r zones d) (plain_why_no r zones d)

-- file
abbrev NoFile : Option FileFault → Type 0
NoFile (Some (broken.Directive f)) = NoFault (Some f)
NoFile other = Unit {0}

file_or : (a b : Option FileFault) → NoFile a → NoFile b → NoFile (option_or a b)
file_or None b p q = q
file_or (Some w) b p q = p

file_at : (o : Option DirectiveFault) → NoFault o → NoFile (option_map broken.Directive o)
file_at None p = tt
file_at (Some f) p = p

told_no : (line : ℕ) (f : ZoneFault) → NoFile (Some (file.told_at line f))
told_no line (zone.Bad number w) = tt
told_no line zone.TooMany = tt
told_no line zone.NoMemory = tt

refusal_no : {A : Type 0} (line : ℕ) (read : Result A ZoneFault) → NoFile (file.refusal_in line read)
refusal_no line (Ok zones) = tt
refusal_no line (Err f) = told_no line f

text_no : (line : ℕ) (origins : List (List (List ℕ))) (text : Option (List ℕ)) → NoFile (file.text_fault line origins text)
text_no line origins None = tt
text_no line origins (Some text) = refusal_no line (zones_from text [] origins)

file_words_no : (zones : List (List (List ℕ))) (words : List (List ℕ)) → NoWhy (file.words_why zones words)
file_words_no zones [] = tt
file_words_no zones (word ∷ words) = why_if (is_some (origins_or zones (word ∷ words))) None (Some why.Zone) tt tt

file_line_no : (seen : Bool) (words : Option (List (List ℕ))) → NoWhy (file.line_by seen words)
file_line_no seen None = tt
file_line_no seen (Some words) = why_if seen (Some why.Args) (fallthrough_why words) tt (why_if (is_some (zones_or every_zone words)) None (Some why.Zone) tt tt)

file_lines_no : (seen : Bool) (lines : List Line) → NoFault (file.lines_fault seen lines)
file_lines_no seen [] = tt
file_lines_no seen (line ∷ lines) =
    fault_or (fault_at line.number (file.line_why seen line.words)) (file.lines_fault true lines)
    (at line.number (file.line_why seen line.words) (file_line_no seen (words_behind (codes "fallthrough") line.words))) (file_lines_no true lines)

file_no : (before : List FileData) (d : Directive) (zones : List (List (List ℕ))) (text : Option (List ℕ)) → NoFile (file_fault before d zones text)
unfolding file_fault
file_no before d zones text =
    let origins = origins_of zones d.args in
    let words = fault_at d.line (file.words_why zones d.args) in
    let lines = file.lines_fault false d.body in
    let double = file.double_why before origins in
    file_or (option_map broken.Directive (file.directive_fault before d zones)) (file.text_fault d.line origins text)
    (file_at (file.directive_fault before d zones)
    (fault_or (option_or words lines) (fault_at d.line double)
    (fault_or words lines (at d.line (file.words_why zones d.args) (file_words_no zones d.args)) (file_lines_no false d.body))
    (at d.line double (why_if (file.some_has before origins) (Some why.DoubleZone) None tt tt))))
    (text_no d.line origins text)

-- forward
abbrev NoErr : {A : Type 0} → Result A DirectiveFault → Type 0
NoErr (Ok v) = Unit {0}
NoErr (Err f) = NoFault (Some f)

err_if : {A : Type 0} (t : Bool) (a b : Result A DirectiveFault) → NoErr a → NoErr b → NoErr (if t then a else b)
err_if true a b p q = p
err_if false a b p q = q

onward_no : {A B : Type 0} (r : Result A DirectiveFault) (next : A → Result B DirectiveFault) → NoErr r → ((v : A) → NoErr (next v)) → NoErr (onward_ok r next)
onward_no (Ok v) next p q = q v
onward_no (Err f) next p q = p

more_no : (us more : List Upstream) → NoErr (with_more us more)
more_no us more = err_if (nat_le (length us + length more) limits.UPSTREAMS) (Ok (us ++ more)) (Err (fault.TooMany limit.Upstreams (limits.UPSTREAMS + 1))) tt tt

served_no : (us : List Upstream) (line : ℕ) (servers : List Upstream) → NoErr (served us line servers)
served_no us line [] = tt
served_no us line (server ∷ servers) = more_no us (server ∷ servers)

by_file_no : (us : List Upstream) (line : ℕ) (text : Option (List ℕ)) → NoErr (by_file us line text)
by_file_no us line None = tt
by_file_no us line (Some text) = served_no us line (servers_in text)

by_word_no : (us : List Upstream) (line : ℕ) (o : Option Upstream) → NoErr (by_word us line o)
by_word_no us line None = tt
by_word_no us line (Some u) = more_no us (u ∷ [])

upstream_no : (us : List Upstream) (line : ℕ) (files : List FileText) (word : List ℕ) → NoErr (with_word us line files word)
upstream_no us line files word =
    err_if (is_file word) (by_file us line (upstreams.file_in word files)) (by_word us line (upstream_of word)) (by_file_no us line (upstreams.file_in word files)) (by_word_no us line (upstream_of word))

upstreams_no : (us : List Upstream) (line : ℕ) (files : List FileText) (words : List (List ℕ)) → NoErr (with_words us line files words)
upstreams_no us line files [] = tt
upstreams_no us line files (word ∷ words) = onward_no (with_word us line files word) (λ more. with_words more line files words) (upstream_no us line files word) (λ more. upstreams_no more line files words)

some_upstreams_no : (line : ℕ) (files : List FileText) (words : List (List ℕ)) → NoErr (forward.some_words line files words)
some_upstreams_no line files [] = tt
some_upstreams_no line files (word ∷ words) = upstreams_no [] line files (word ∷ words)

forward_args_no : (line : ℕ) (files : List FileText) (words : List (List ℕ)) → NoErr (forward.args_read line files words)
forward_args_no line files [] = tt
forward_args_no line files (from ∷ words) =
    err_if (is_some (word_zone from)) (forward.some_words line files words) (Err (fault.Why line why.Zone)) (some_upstreams_no line files words) tt

except_no : (words : List (List ℕ)) → NoWhy (forward.except_why words)
except_no [] = tt
except_no (word ∷ words) = why_if (is_some (zones_of (word ∷ words))) None (Some why.Zone) tt tt

choice_no : (words : List (List ℕ)) → NoWhy (forward.policy_why words)
choice_no [] = tt
choice_no (word ∷ words) = why_or (unless (is_some (policy_in word)) why.Option) (empty_why words) (why_if (is_some (policy_in word)) None (Some why.Option) tt tt) (empty_no words)

fails_no : (words : List (List ℕ)) → NoWhy (forward.fails_why words)
fails_no [] = tt
fails_no (word ∷ words) = why_or (unless (is_some (fails_in word)) why.Number) (empty_why words) (why_if (is_some (fails_in word)) None (Some why.Number) tt tt) (empty_no words)

option_no : (seen : OptionsSeen) (o : ForwardOpens) (words : List (List ℕ)) → NoWhy (forward.why_by seen o words)
option_no seen options.Except words = why_if seen.except (Some why.Args) (forward.except_why words) tt (except_no words)
option_no seen options.ForceTcp words = why_if seen.force_tcp (Some why.Args) (empty_why words) tt (empty_no words)
option_no seen options.Policy words = why_if seen.policy (Some why.Args) (forward.policy_why words) tt (choice_no words)
option_no seen options.MaxFails words = why_if seen.max_fails (Some why.Args) (forward.fails_why words) tt (fails_no words)
option_no seen options.Other words = tt

forward_line_no : (seen : OptionsSeen) (words : List (List ℕ)) → NoWhy (forward.line_why seen words)
forward_line_no seen [] = tt
forward_line_no seen (word ∷ words) = option_no seen (forward.opened word) words

forward_lines_no : (seen : OptionsSeen) (lines : List Line) → NoFault (forward.lines_fault seen lines)
forward_lines_no seen [] = tt
forward_lines_no seen (line ∷ lines) =
    fault_or (fault_at line.number (forward.line_why seen line.words)) (forward.lines_fault (forward.seen_after seen line.words) lines) (at line.number (forward.line_why seen line.words) (forward_line_no seen line.words))
    (forward_lines_no (forward.seen_after seen line.words) lines)

lined_no : (d : Directive) (f : Option DirectiveFault) (us : List Upstream) → NoFault f → NoErr (forward.lined d f us)
lined_no d None us p = tt
lined_no d (Some refused) us p = p

fault_in_no : (r : Result ForwardData DirectiveFault) → NoErr r → NoFault (forward.fault_in r)
fault_in_no (Ok plan) p = tt
fault_in_no (Err refused) p = p

forward_no : (d : Directive) (files : List FileText) → NoFault (forward_fault d files)
forward_no d files =
    let lines = forward.lines_fault forward.none_seen d.body in
    fault_in_no (forward_read d files)
    (onward_no (forward.args_read d.line files d.args) (forward.lined d lines) (forward_args_no d.line files d.args) (λ us. lined_no d lines us (forward_lines_no forward.none_seen d.body)))

-- so no refusal is that of a pattern
abbrev NoRefusal : Option Refusal → Type 0
NoRefusal None = Unit {0}
NoRefusal (Some refused) = is_of_pattern refused ≡ false

why_refused : (line : ℕ) (w : DirectiveWhy) → NoWhy (Some w) → NoRefusal (refused_by (Some (fault.Why line w)))
why_refused line why.Pattern p = absurd p
why_refused line why.PatternSize p = absurd p
why_refused line other p = refl

refused_no : (o : Option DirectiveFault) → NoFault o → NoRefusal (refused_by o)
refused_no None p = tt
refused_no (Some (fault.Why line w)) p = why_refused line w p
refused_no (Some (fault.TooMany what number)) p = refl
refused_no (Some fault.NoMemory) p = tt

refused_file_no : (o : Option FileFault) → NoFile o → NoRefusal (refused_by_file o)
refused_file_no None p = tt
refused_file_no (Some (broken.Directive f)) p = refused_no (Some f) p
refused_file_no (Some (broken.Zone line number w)) p = refl

fixed_no : (r : Rank) (b : Behind) (d : Directive) → NoRefusal (fixed_refusal r b d)
fixed_no rank.Acl b d = refused_no (acl_fault d b.context.zones) (acl_no d b.context.zones)
fixed_no rank.Hosts b d = refused_no (hosts_fault d b.context.zones) (hosts_no d b.context.zones)
fixed_no rank.File b d = refused_file_no _ (file_no _ d b.context.zones (file_in b.context.files d))
fixed_no rank.Dns64 b d = refused_no (dns64_fault d) (dns64_no d)
fixed_no rank.Extra b d = refl
fixed_no rank.Cache b d = refused_no (cache_fault d b.context.zones) (cache_no d b.context.zones)
fixed_no rank.Forward b d = refused_no (forward_fault d b.context.files) (forward_no d b.context.files)
fixed_no other b d = refused_no (plain_fault other d b.context.zones) (plain_fault_no other d b.context.zones)

refusals_same : (refused : Refusal) (state : WatchState) → is_of_pattern refused ≡ false → state ≡ check_behind {X = Unit {0}} (Err (check.Refused refused)) state
refusals_same refused state e = rw e refl

-- reading such a directive leaves the maker as it was
pub fixed_maker : (r : Rank) (b : Behind) (d : Directive) (old new : Places) (result : Result (Unit {0}) CheckFault) → ReadsAs r b d old new result → (state : WatchState) → state ≡ check_behind result state
fixed_maker r b d old new (Ok done) h state = refl
fixed_maker r b d old new (Err (check.Refused refused)) h state = refusals_same refused state (subst NoRefusal h (fixed_no r b d))
fixed_maker r b d old new (Err check.NoMemory) h state = refl
