use Rattle.std.proofs.Common.{refl, sym, ◌∙◌, arith}
use Rattle.laws.specs.Tab.{tab_none, tab_more, tab_done}
use Rattle.map.specs.Map.{default_of}
use Rattle.map.specs.Laws.{defaults_tab}
use Rattle.state.proofs.default_registers.Goals as goal

pub loop-address-init : goal.loop-address-init
loop-address-init c = (refl, tab_none _ _)

pub loop-address-preserved : goal.loop-address-preserved
loop-address-preserved c =
    (refl, tab_more default_of c.loop-address.address _ _ (omega arith) c.default_of.ensures c.loop-address.invariant.1)

pub returns-2 : goal.returns-2
returns-2 c =
    tab_done default_of 256 _ _ (tab_more default_of c.loop-address.address _ _ (omega arith) c.default_of.ensures c.loop-address.invariant.1) (omega arith) (omega arith)
    ∙ sym defaults_tab
