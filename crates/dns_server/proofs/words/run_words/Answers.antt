use Rattle.std.proofs.Common.{refl, inl, inr}
use Rattle.command_line.specs.Command.{serve_data}
use Rattle.dns_server.proofs.words.run_words.Goals as goal

pub returns-in-Some-Serve-clause-runs : goal.returns-in-Some-Serve-clause-runs
returns-in-Some-Serve-clause-runs g c = inr (inl (record {
  how = serve_data c.in-Some-Serve.serve;
  words_are = rw c.in-Some-Serve.field-0-is at c.in-Some-Serve.ensures.command;
  load = refl;
  runs = c.run_serve-ran.ensures.runs;
}))

pub returns-in-Some-Load-clause-runs : goal.returns-in-Some-Load-clause-runs
returns-in-Some-Load-clause-runs g c = inr (inr (record {
  count = c.in-Some-Load.count;
  words_are = rw c.in-Some-Load.field-0-is at c.in-Some-Load.ensures.command;
  loads = c.run_load.ensures.loads;
}))

pub returns-in-None-clause-runs : goal.returns-in-None-clause-runs
returns-in-None-clause-runs g c = rw c.stopped-ran.ensures (inl (record {
  usage = c.in-None.ensures.command;
  status_is = refl;
  sides = refl;
  watch = refl;
  published = refl;
  starved = refl;
  load = refl;
  host = refl;
}))
