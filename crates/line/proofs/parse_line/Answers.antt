-- `line::parse_line` is `parse_line`, which reads back what is written and nothing else. Assumes nothing.
use Rattle.std.proofs.Common.{arith, rules}
use Rattle.line.proofs.Cuts.{without_head, without_space, no_case, no_configuration, no_corners, all_parts}
use Rattle.line.proofs.RoundTrip.{parse_written}
use Rattle.line.proofs.OnlyWritten.{only_written}
use Rattle.line.proofs.parse_line.Goals as goal

pub returns-in_err-n : goal.returns-in_err-n
returns-in_err-n c = record {
  line = rw c.from_residual.ensures (without_head _ (omega (arith, c.in_err-n.ensures {u = tt})));
  back = parse_written;
  only = only_written;
}

pub returns-in_err-k : goal.returns-in_err-k
returns-in_err-k c = record {
  line = rw c.from_residual-in_err-k.ensures (without_space _ _ (c.in_ok-n.ensures {u = tt}).1 (c.in_err-k.ensures {u = tt}).place);
  back = parse_written;
  only = only_written;
}

pub returns-in_err-signed : goal.returns-in_err-signed
returns-in_err-signed c =
    let k = c.in_ok-k.ensures {u = tt} in
    record {
      line = rw c.from_residual-in_err-signed.ensures (no_case _ _ (c.in_ok-n.ensures {u = tt}).1 _ k.place k.within (c.in_err-signed.ensures {u = tt}));
      back = parse_written;
      only = only_written;
    }

pub returns-in_err-signed-2 : goal.returns-in_err-signed-2
returns-in_err-signed-2 c =
    let k = c.in_ok-k.ensures {u = tt} in
    record {
      line = rw c.from_residual-in_err-signed-2.ensures (no_configuration _ _ (c.in_ok-n.ensures {u = tt}).1 _ k.place k.within (c.in_err-signed-2.ensures {u = tt}));
      back = parse_written;
      only = only_written;
    }

pub returns-in_err-cube_in : goal.returns-in_err-cube_in
returns-in_err-cube_in c =
    let k = c.in_ok-k.ensures {u = tt} in
    record {
      line = rw c.from_residual-in_err-cube_in.ensures (no_corners _ _ (c.in_ok-n.ensures {u = tt}).1 _ k.place k.within _ _
          (c.in_ok-signed.ensures {u = tt}) (c.in_ok-signed-2.ensures {u = tt}) (c.in_err-cube_in.ensures {u = tt}));
      back = parse_written;
      only = only_written;
    }

pub returns : goal.returns
returns c =
    let k = c.in_ok-k.ensures {u = tt} in
    record {
      line = all_parts _ _ (c.in_ok-n.ensures {u = tt}).1 _ k.place k.within _ _
          (c.in_ok-signed.ensures {u = tt}) (c.in_ok-signed-2.ensures {u = tt}) (search rules) (search rules) (c.in_ok-cube_in.ensures {u = tt});
      back = parse_written;
      only = only_written;
    }
