use Rattle.etps_script.specs.Lines.{script_lines}
use Rattle.etps_script.proofs.Replying.{replies_all, replies_more}
use Rattle.etps_script.proofs.scripts.run_script.Goals as goal

pub loop-rest-preserved : goal.loop-rest-preserved
loop-rest-preserved c =
    let step = c.in_ok-names-2.ensures in
    record {
      written =
          replies_more c.loop-rest.session c.append_reply.new.session c.first_line.result.0.now (script_lines c.loop-rest.rest.now)
          (script_lines c.first_line.result.1.now) (script_lines c.args.bytes.now) c.loop-rest.out c.append_reply.new.out
          c.loop-rest.invariant.written c.first_line.ensures.cut step.reply;
      names = step.names;
    }

pub returns : goal.returns
returns c =
    replies_all c.loop-rest.session c.loop-rest.rest.now (script_lines c.args.bytes.now) c.loop-rest.out c.loop-rest.invariant.written
    c.loop-rest-test.ensures
