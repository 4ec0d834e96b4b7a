-- `write_all`, at its `Err`: all bytes were taken, and then the flush was rejected.
use Rattle.std.proofs.Common.{rules, length}
use Rattle.std.proofs.Math.Seq.{take-length}
use Rattle.std.specs.Io.KnownBytes.{Appends}
use Rattle.der_core.specs.Words.{OneFailed}
use Rattle.der_core.proofs.transfer.write_all.Goals as goal

pub returns-in-Err-clause-written : goal.returns-in-Err-clause-written
returns-in-Err-clause-written g c =
    let all : Appends (g.W.Sink.contents c.args.sink.now) (g.W.Sink.contents c.flush.new.self) c.args.bytes.now =
    search rules in
    let rejected : OneFailed (g.W.Sink.failures c.args.sink.now) (g.W.Sink.failures c.flush.new.self) = search rules in
    ((length c.args.bytes.now, rw take-length all), search rules, rejected)
