use Rattle.guard_tables.proofs.LowestSlots.{first_lowest, second_lowest, third_lowest, fourth_lowest, none_left}
use Rattle.guard_tables.proofs.slots.Slots.lowest.Goals as goal

pub returns-then-self-ne0 : goal.returns-then-self-ne0
returns-then-self-ne0 c = first_lowest c.args.self.now c.lowest_bit.result c.lowest_bit.ensures

pub returns-then-self-ne0-2 : goal.returns-then-self-ne0-2
returns-then-self-ne0-2 c = second_lowest c.args.self.now c.lowest_bit-then-self-ne0-2.result c.if-self-ne0.false c.lowest_bit-then-self-ne0-2.ensures

pub returns-then-self-ne0-3 : goal.returns-then-self-ne0-3
returns-then-self-ne0-3 c =
    third_lowest c.args.self.now c.lowest_bit-then-self-ne0-3.result c.if-self-ne0.false c.if-self-ne0-2.false c.lowest_bit-then-self-ne0-3.ensures

pub returns-then-self-ne0-4 : goal.returns-then-self-ne0-4
returns-then-self-ne0-4 c =
    fourth_lowest c.args.self.now c.lowest_bit-then-self-ne0-4.result c.if-self-ne0.false c.if-self-ne0-2.false c.if-self-ne0-3.false
    c.lowest_bit-then-self-ne0-4.ensures

pub returns : goal.returns
returns c = none_left c.args.self.now c.if-self-ne0.false c.if-self-ne0-2.false c.if-self-ne0-3.false c.if-self-ne0-4.false
