mod Machine
