use Rattle.bip_frame.proofs.ReadingLemmas.{used_lies, is_refused}
use Rattle.bip_frame.proofs.reading.take_refused.Goals as goal

pub split_at-requires : goal.split_at-requires
split_at-requires c = (used_lies c.in_ok-head.behind.now c.in_ok-used.field-0-0
    c.in_ok-used.used.now c.in_ok-rest.field-0-0 c.in_ok-rest.rest.now c.in_ok-used.ensures
    c.in_ok-rest.ensures).long

pub returns : goal.returns
returns c = is_refused c.args.bytes.now (record {
  class = c.in_ok-head.head.class;
  request = c.in_ok-head.head.request;
  inter = c.in_ok-head.head.inter;
}) c.in_ok-head.behind.now
    c.in_ok-used.field-0-0 c.in_ok-used.used.now c.in_ok-rest.field-0-0 c.in_ok-rest.rest.now
    c.split_at.result.0.now c.in_ok-head.ensures c.in_ok-used.ensures c.in_ok-rest.ensures
    c.split_at.ensures.front
