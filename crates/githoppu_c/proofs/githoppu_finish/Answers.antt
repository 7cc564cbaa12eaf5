use Rattle.std.proofs.Common.{rules}
use Rattle.githoppu_c.proofs.githoppu_finish.Goals as goal

-- the answer to C is the status of the call's result, and a further call may be made with what the handle holds
pub returns : goal.returns
returns c = record {
  tries = c.tries_of.result.count;
  asked_for = c.tries_of.ensures;
  called = c.finish-called.result;
  after = c.finish-called.new.self;
  callable = c.finish-called.ensures.callable;
  comes_to = search rules;
  is = search rules;
}
