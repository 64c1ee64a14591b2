use Rattle.std.proofs.Common.{refl}
use Rattle.make_core.proofs.Machines.{no_size, nothing_made, nothing_lost, size_exactly}
use Rattle.make_core.proofs.making.make.Goals as goal

pub returns-in-Some-clause-size : goal.returns-in-Some-clause-size
returns-in-Some-clause-size g c = λ device. size_exactly c.in-Some.device device _ c.in-Some.ensures

pub returns-in-Some-clause-causes : goal.returns-in-Some-clause-causes
returns-in-Some-clause-causes g c = c.in-Some.ensures

pub returns-in-Some-clause-full : goal.returns-in-Some-clause-full
returns-in-Some-clause-full g c = λ told lacks. refl

pub returns-in-Some-clause-ok : goal.returns-in-Some-clause-ok
returns-in-Some-clause-ok g c = tt

pub returns-in-Some-clause-err : goal.returns-in-Some-clause-err
returns-in-Some-clause-err g c = refl

pub returns-in-Some-clause-counters : goal.returns-in-Some-clause-counters
returns-in-Some-clause-counters g c = nothing_made c.in-Some.device _

pub returns-in-Some-clause-kept : goal.returns-in-Some-clause-kept
returns-in-Some-clause-kept g c = nothing_lost _ c.requires.disk c.requires.stick

pub returns-in-None-clause-size : goal.returns-in-None-clause-size
returns-in-None-clause-size g c = λ device. (λ is. absurd (c.make_machine.ensures.size device is), λ other. absurd (no_size device _ c.in-None.ensures other))

pub returns-in-None-clause-causes : goal.returns-in-None-clause-causes
returns-in-None-clause-causes g c = c.make_machine.ensures.causes

pub returns-in-None-clause-full : goal.returns-in-None-clause-full
returns-in-None-clause-full g c = c.make_machine.ensures.full

pub returns-in-None-clause-ok : goal.returns-in-None-clause-ok
returns-in-None-clause-ok g c = c.make_machine.ensures.ok

pub returns-in-None-clause-err : goal.returns-in-None-clause-err
returns-in-None-clause-err g c = c.make_machine.ensures.err

pub returns-in-None-clause-counters : goal.returns-in-None-clause-counters
returns-in-None-clause-counters g c = c.make_machine.ensures.counters

pub returns-in-None-clause-kept : goal.returns-in-None-clause-kept
returns-in-None-clause-kept g c = c.make_machine.ensures.kept
