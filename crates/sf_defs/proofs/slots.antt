mod SlotRows
