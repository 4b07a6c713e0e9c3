-- The data of a load by its number of queries. This server's own rule.
use Rattle.std.specs.Prelude.{ℕ}
use Rattle.load_maker.specs.declared.load.Load.{Load}
use Rattle.load_maker.specs.Queries.{queries_of}
use Rattle.load_maker.specs.Texts.{conf_text, second_text, zone_text}

-- both forms of the Corefile, the zone, and the queries
abbrev pub load_of : ℕ → Load
load_of count = record {
  conf = conf_text;
  second = second_text;
  zone = zone_text;
  datagrams = queries_of count;
}
