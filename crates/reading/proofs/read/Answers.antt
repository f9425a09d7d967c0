use Rattle.std.proofs.Common.{rules}
use Rattle.memory.specs.Contents.{held}
use Rattle.reading.proofs.Finding.{alike}
use Rattle.reading.proofs.read.Goals as goal

pub returns-in_err-at-clause-alike : goal.returns-in_err-at-clause-alike
returns-in_err-at-clause-alike g c = alike c.args.line.now (held c.args.memory.now) c.args.process c.args.subject g.I.Item.unpacked _ (search rules)

pub returns-in_default-clause-alike : goal.returns-in_default-clause-alike
returns-in_default-clause-alike g c = alike c.args.line.now (held c.args.memory.now) c.args.process c.args.subject g.I.Item.unpacked _ (search rules)

pub returns-in_default-unpack-clause-alike : goal.returns-in_default-unpack-clause-alike
returns-in_default-unpack-clause-alike g c = alike c.args.line.now (held c.args.memory.now) c.args.process c.args.subject g.I.Item.unpacked _ (search rules)

pub returns-clause-alike : goal.returns-clause-alike
returns-clause-alike g c = alike c.args.line.now (held c.args.memory.now) c.args.process c.args.subject g.I.Item.unpacked _ (search rules)
