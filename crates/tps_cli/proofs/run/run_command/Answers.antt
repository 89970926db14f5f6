use Rattle.std.proofs.Common.{inl, inr}
use Rattle.tps_cli.proofs.run.run_command.Goals as goal

pub returns-in-Ok-Yes-clause-ran : goal.returns-in-Ok-Yes-clause-ran
returns-in-Ok-Yes-clause-ran g c =
    let judged = rw c.in-Ok-Yes.field-0-is at c.in-Ok-Yes.ensures in
    let answered = rw c.deref.ensures.value at judged in
    inl (
      c.in-Ok-Yes.output,
      record { bytes = c.in-Ok.bytes.items; read = c.in-Ok.ensures.read; answer = answered },
      rw c.as_slice.ensures at c.in-Err-write_all.ensures.err,
      c.in-Err-write_all.ensures.cause.failed,
    )

pub returns-clause-ran : goal.returns-clause-ran
returns-clause-ran g c =
    let judged = rw c.in-Ok-No.field-0-is at c.in-Ok-No.ensures in
    let answered = rw c.deref.ensures.value at judged in
    inr (
      c.in-Ok-No.output,
      record { bytes = c.in-Ok.bytes.items; read = c.in-Ok.ensures.read; answer = answered },
      rw c.as_slice-in-Ok-No.ensures at c.in-Err-write_all-2.ensures.err,
      c.in-Err-write_all-2.ensures.cause.failed,
    )
