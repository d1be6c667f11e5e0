use Rattle.std.proofs.Common.{◌∙◌, arith}
use Rattle.text.specs.Answers.{column_text}
use Rattle.text.specs.Decimal.{digits_length}
use Rattle.text.specs.Written.{behind, column_length, column_short}
use Rattle.text.proofs.Output.column.Goals as goal

pub put_digits-self-requires : goal.put_digits-self-requires
put_digits-self-requires c = omega (arith, digits_length 20 c.args.n)

pub returns : goal.returns
unfolding column_text
returns c =
    let tab = c.byte.ensures in
    let wrote = behind tab.wrote c.put_digits-self.ensures in
    let l = column_length c.args.n in
    record {
      writes = record { same = tab.same; whole = c.put_digits-self.auto.out ∙ tab.whole; wrote = wrote };
      long = omega arith;
      short = λ h. let s = column_short c.args.n h in omega arith;
    }
