-- Messages (RFC 1035, section 4.1) and answers as plain data.
use Rattle.std.specs.Prelude.{ℕ, Bool, false, ◌<◌, List, [], Option}
use Rattle.dns_data.specs.declared.message.Question.{Question}
use Rattle.dns_data.specs.declared.message.Opt.{Opt}
use Rattle.dns_data.specs.Record.{RecordData}
use Rattle.dns_data.specs.declared.rcode.TheConstants as rcodes

pub record MessageData : Type 0 where
  pub id : ℕ
  pub qr : Bool
  pub opcode : ℕ
  pub aa : Bool
  pub tc : Bool
  pub rd : Bool
  pub ra : Bool
  pub ad : Bool
  pub cd : Bool
  pub rcode : ℕ
  pub question : Question
  pub answer : List RecordData
  pub authority : List RecordData
  pub additional : List RecordData
  pub opt : Option Opt

pub record AnswerData : Type 0 where
  pub rcode : ℕ
  pub aa : Bool
  pub ra : Bool
  pub tc : Bool
  pub answer : List RecordData
  pub authority : List RecordData
  pub additional : List RecordData

-- NOERROR without flags and records
abbrev pub no_answer : AnswerData
no_answer = record {
  rcode = rcodes.NOERROR;
  aa = false;
  ra = false;
  tc = false;
  answer = [];
  authority = [];
  additional = [];
}

-- an RCODE without flags and records
abbrev pub nothing : ℕ → AnswerData
nothing rcode = record {
  rcode = rcode;
  aa = false;
  ra = false;
  tc = false;
  answer = [];
  authority = [];
  additional = [];
}

pub record AreCodes (opcode rcode : ℕ) : Type 0 where
  pub opcode_fits : opcode < 16
  pub rcode_fits : rcode < 16
