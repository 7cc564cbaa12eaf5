-- Records of lives without cuts, and the records of the queue's lives.
use Rattle.std.specs.Prelude.{[]}
use Rattle.life_records.specs.Records.{LifeRecord}
use Rattle.fifo_object.specs.declared.operations.FifoReply.{FifoReply}
use Rattle.fifo_commands.specs.declared.record.FifoRecord.{FifoRecord}

-- a record without what only cuts have
abbrev pub without_cuts : LifeRecord FifoReply → FifoRecord
without_cuts report = record { clients = report.clients; from = report.from; journal = report.journal; reads = report.reads; choice = report.choice; kept = report.kept; items = report.items }

-- a record with what cuts have left empty: no client was stopped or ran out of free cells
abbrev pub with_no_stops : FifoRecord → LifeRecord FifoReply
with_no_stops report = record { clients = report.clients; from = report.from; journal = report.journal; reads = report.reads; stops = []; fulls = []; choice = report.choice; kept = report.kept; items = report.items }
