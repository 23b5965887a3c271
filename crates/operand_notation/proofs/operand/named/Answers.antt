use Rattle.std.proofs.Common.{rules}
use Rattle.armv7.specs.declared.operand.Operand.TheVariants.{RegDerefPostindexRegShift, RegDerefPreindexRegShift, RegDerefPostindexOffset, RegDerefPreindexOffset, RegDerefPostindexReg, RegDerefPreindexReg}
use Rattle.operand_notation.proofs.operand.named.Goals as goal

pub returns-in-PostShifted : goal.returns-in-PostShifted
returns-in-PostShifted c = let e = c.indexed.ensures (λ x. RegDerefPostindexRegShift x.0.0 x.0.1 x.1.0 x.1.1) (λ x o p. search rules) in search rules

pub returns-in-PreShifted : goal.returns-in-PreShifted
returns-in-PreShifted c = let e = c.indexed-in-PreShifted.ensures (λ x. RegDerefPreindexRegShift x.0.0 x.0.1 x.1.0 x.1.1) (λ x o p. search rules) in search rules

pub returns-in-PostOffset : goal.returns-in-PostOffset
returns-in-PostOffset c = let e = c.indexed-in-PostOffset.ensures (λ x. RegDerefPostindexOffset x.0.0 x.0.1 x.1.0 x.1.1) (λ x o p. search rules) in search rules

pub returns-in-PreOffset : goal.returns-in-PreOffset
returns-in-PreOffset c = let e = c.indexed-in-PreOffset.ensures (λ x. RegDerefPreindexOffset x.0.0 x.0.1 x.1.0 x.1.1) (λ x o p. search rules) in search rules

pub returns-in-PostRegister : goal.returns-in-PostRegister
returns-in-PostRegister c = let e = c.indexed-in-PostRegister.ensures (λ x. RegDerefPostindexReg x.0.0 x.0.1 x.1.0 x.1.1) (λ x o p. search rules) in search rules

pub returns-in-PreRegister : goal.returns-in-PreRegister
returns-in-PreRegister c = let e = c.indexed-in-PreRegister.ensures (λ x. RegDerefPreindexReg x.0.0 x.0.1 x.1.0 x.1.1) (λ x o p. search rules) in search rules
