use Rattle.std.proofs.Common.{arith}
use Rattle.sink.proofs.Lents.{room_left}
use Rattle.sink.proofs.marking.MarkSinkRoomSink.room.Goals as goal

pub returns : goal.returns
returns c = record { room = room_left c.args.self.now.buf.now c.args.self.now.len (omega arith) c.args.self.now.within }
